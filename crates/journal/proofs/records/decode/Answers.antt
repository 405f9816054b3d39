use Rattle.std.proofs.Common.{◌≡◌, ◌-◌, ◌≤◌, ◌<◌, ◌∷◌, length, take, drop, get_or, Some, None, sym, ap, ◌∙◌, subst, rules, arith, length-drop}
use Rattle.std.proofs.lemmas.List.{take_rest}
use Rattle.std.specs.Option.{option_map}
use Rattle.register.specs.Held.{record_of}
use Rattle.journal.specs.Bytes.{bytes_of, Writable, size_of, size_by}
use Rattle.journal.specs.Kinds.{first_byte}
use Rattle.journal.specs.Reads.{ReadOf}
use Rattle.journal.proofs.Sizes.{size_read, size_none, size_more, size_only, size_some, front_read, place_read, stands_there}
use Rattle.journal.proofs.records.decode.Goals as goal
use Rattle.journal.proofs.records.decode.Goals.{After-size, After-record}

there : (c : After-size) → c.args.at < length c.args.bytes.now
there c =
    let found : c.get.result ≡ Some c.in_ok-first.first = search rules in
    search rules

first : (c : After-size) → first_byte c.in_ok-kind.kind ≡ get_or (drop c.args.at c.args.bytes.now) 0 0
first c =
    let found : c.in_ok-first.first.now ≡ get_or c.args.bytes.now c.args.at 0 = search rules in
    place_read c.args.bytes.now c.args.at _ (c.in_ok-kind.ensures ∙ found)

size_told : (c : After-size) → size_of (drop c.args.at c.args.bytes.now) ≡ c.size.result
size_told c =
    let bs = c.args.bytes.now in
    let at = c.args.at in
    size_read (drop at bs) (first_byte c.in_ok-kind.kind) c.size.result (omega (arith, there c, length-drop at bs)) (first c)
    (c.size.ensures ∙ ap (λ l. size_by (first_byte c.in_ok-kind.kind) (length l) (get_or l 35 0) (get_or l 3 0)) (take_rest bs at))

pub returns-in_err-size : goal.returns-in_err-size
returns-in_err-size c =
    let none : c.size.result ≡ None = search rules in
    let bad = size_none (drop c.args.at c.args.bytes.now) (size_told (goal.at.returns-in_err-size c).After-size ∙ none) in
    search rules

pub returns-in_err-body : goal.returns-in_err-body
returns-in_err-body c =
    let bs = c.args.bytes.now in
    let at = c.args.at in
    let told : c.size.result ≡ Some c.in_ok-size.size = search rules in
    let size = size_told (goal.at.returns-in_err-body c).After-size ∙ told in
    let none : c.get-2.result ≡ None = search rules in
    let some = size_some (drop at bs) c.in_ok-size.size size in
    let few : length (take (length bs - at) (drop at bs)) < c.in_ok-size.size = search rules in
    let part = size_more (drop at bs) c.in_ok-size.size size (omega (arith, few, ap length (take_rest bs at))) in
    search rules

whole : (c : After-record) → first_byte c.in_ok-kind.kind ≡ get_or (drop c.args.at c.args.bytes.now) 0 0
    → (c.in_ok-size.size ≤ length (drop c.args.at c.args.bytes.now)) × (first_byte c.in_ok-kind.kind ∷ c.in_ok-body.body.now ≡ take c.in_ok-size.size (drop c.args.at c.args.bytes.now))
whole c e =
    let bs = c.args.bytes.now in
    let at = c.args.at in
    let n = c.in_ok-size.size in
    let rest = take (length bs - at) (drop at bs) in
    let all = take_rest bs at in
    let found : c.get-2.result ≡ Some c.in_ok-body.body = search rules in
    let some : 1 ≤ n = search rules in
    let enough : n ≤ length rest = search rules in
    let body : c.in_ok-body.body.now ≡ take (n - 1) (drop 1 rest) = search rules in
    let within : n ≤ length (drop at bs) = omega (arith, enough, ap length all) in
    (within, ap (λ l. first_byte c.in_ok-kind.kind ∷ l) (body ∙ ap (λ l. take (n - 1) (drop 1 l)) all) ∙ front_read (drop at bs) n (first_byte c.in_ok-kind.kind) some (omega arith) e)

pub returns-in_err-what : goal.returns-in_err-what
returns-in_err-what c =
    let told : c.size.result ≡ Some c.in_ok-size.size = search rules in
    let size = size_told (goal.at.returns-in_err-what c).After-size ∙ told in
    let (within, same) = whole (goal.at.returns-in_err-what c).After-record (first (goal.at.returns-in_err-what c).After-size) in
    let none : c.record.result ≡ None = search rules in
    let no : ReadOf bytes_of Writable (first_byte c.in_ok-kind.kind ∷ c.in_ok-body.body.now) (option_map record_of None) = subst (λ r. ReadOf bytes_of Writable (first_byte c.in_ok-kind.kind ∷ c.in_ok-body.body.now) (option_map record_of r)) none c.record.ensures in
    let bad = size_only (drop c.args.at c.args.bytes.now) c.in_ok-size.size size within (λ y w e. no y w (same ∙ e)) in
    search rules

pub returns : goal.returns
returns c =
    let (within, same) = whole (goal.at.returns c).After-record (first (goal.at.returns c).After-size) in
    let found : c.record.result ≡ Some c.in_ok-what.what = search rules in
    let yes : ReadOf bytes_of Writable (first_byte c.in_ok-kind.kind ∷ c.in_ok-body.body.now) (option_map record_of (Some c.in_ok-what.what)) = subst (λ r. ReadOf bytes_of Writable (first_byte c.in_ok-kind.kind ∷ c.in_ok-body.body.now) (option_map record_of r)) found c.record.ensures in
    (yes.0, stands_there c.args.bytes.now c.args.at c.in_ok-size.size _ (sym same ∙ yes.1), omega (arith, within, length-drop c.args.at c.args.bytes.now, there (goal.at.returns c).After-size))

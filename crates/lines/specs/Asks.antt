-- What a line asks for, by its words.
use Rattle.std.specs.Prelude.{ℕ, zero, suc, Bool, true, false, cond, List, [], ◌∷◌, drop, Some, None, codes, Option}
use Rattle.std.specs.Option.{option_map}
use Rattle.table.specs.declared.row.Row.{Row}
use Rattle.service.specs.Calls.{Claim}
use Rattle.service.specs.Held.{claim_of}
use Rattle.lines.specs.declared.kinds.Asked.{Asked}
use Rattle.lines.specs.declared.kinds.Asked.TheVariants.{Write, Off, Read, Look, Loan, Make, Up, Turn, Down, Fill, Clear, Rows}
use Rattle.service.specs.declared.kinds.Claim as codes
use Rattle.lines.specs.declared.verbs.OfficeVerb.{OfficeVerb}
use Rattle.lines.specs.declared.verbs.OfficeVerb.TheVariants as office
use Rattle.lines.specs.declared.verbs.IndexVerb.{IndexVerb}
use Rattle.lines.specs.declared.verbs.IndexVerb.TheVariants as index
use Rattle.words.specs.Numbers.{first_number, number_in}
use Rattle.lines.specs.Stages.{stages_in}
use Rattle.lines.specs.Verbs.{spells, office_verb, index_verb}

-- what a line asks for; one that names no claim is made on the office's newest lease
pub data Ask : Type 0 where
  write : (office : ℕ) (on : Option Claim) (key : ℕ) (row : Row) → Ask
  off : (office : ℕ) (on : Option Claim) (key : ℕ) → Ask
  read : (office key : ℕ) → Ask
  look : (office : ℕ) (on : Option Claim) (index value : ℕ) → Ask
  loan : (office : ℕ) → Ask
  make : (index column : ℕ) (unique : Bool) → Ask
  up turn down fill clear : (index : ℕ) → Ask
  rows : (index value : ℕ) → Ask

-- the claim that a line names, if it names one
abbrev pub basis_of : Option codes.Claim → Option Claim
basis_of = option_map claim_of

-- what the code's value says
abbrev pub ask_of : Asked → Ask
ask_of (Write o on k n) = write o (basis_of on) k.number n
ask_of (Off o on k) = off o (basis_of on) k.number
ask_of (Read o k) = read o k.number
ask_of (Look o on i v) = look o (basis_of on) i.number v
ask_of (Loan o) = loan o
ask_of (Make i c u) = make i.number c.number u
ask_of (Up i) = up i.number
ask_of (Turn i) = turn i.number
ask_of (Down i) = down i.number
ask_of (Fill i) = fill i.number
ask_of (Clear i) = clear i.number
ask_of (Rows i v) = rows i.number v

-- goes on with what was read, if it was
abbrev pub and_then : {A B : Type 0} → Option A → (A → Option B) → Option B
and_then None f = None
and_then (Some x) f = f x

-- what was read, if no word is left
abbrev pub at_end : {A : Type 0} → List (List ℕ) → A → Option A
at_end [] x = Some x
at_end (w ∷ ws) x = None

-- a number in front of others
abbrev pub in_front : Option ℕ → Option (List ℕ) → Option (List ℕ)
in_front None vs = None
in_front (Some v) None = None
in_front (Some v) (Some vs) = Some (v ∷ vs)

-- the values of so many columns
unfoldable pub values_in : (count : ℕ) → List (List ℕ) → Option (List ℕ)
values_in zero ws = Some []
values_in (suc n) ws = in_front (first_number 4294967295 ws) (values_in n (drop 1 ws))

-- a row of eight columns
abbrev pub row_in : List (List ℕ) → Option Row
row_in ws = option_map (λ vs. record { columns = vs }) (values_in 8 ws)

-- a claim of that epoch
abbrev pub claim_on : ℕ → List ℕ → Claim
claim_on e ss = record { epoch = e; stages = ss }

-- the claim that the rest of a line names: none, or `on`, an epoch and a stage list
abbrev pub basis_in : List (List ℕ) → Option (Option Claim)
basis_in [] = Some None
basis_in (w ∷ ws) = cond (spells w (codes "on")) (and_then (first_number 18446744073709551615 ws) (λ e. option_map (λ ss. Some (claim_on e ss)) (stages_in (drop 1 ws)))) None

-- K C0 .. C7, and what it acts on
abbrev pub write_in : (office : ℕ) → List (List ℕ) → Option Ask
write_in o ws = and_then (first_number 4095 ws) (λ k. and_then (row_in (drop 1 ws)) (λ n. option_map (λ on. write o on k n) (basis_in (drop 8 (drop 1 ws)))))

-- K, and what it acts on
abbrev pub off_in : (office : ℕ) → List (List ℕ) → Option Ask
off_in o ws = and_then (first_number 4095 ws) (λ k. option_map (λ on. off o on k) (basis_in (drop 1 ws)))

-- K
abbrev pub read_in : (office : ℕ) → List (List ℕ) → Option Ask
read_in o ws = and_then (first_number 4095 ws) (λ k. at_end (drop 1 ws) (read o k))

-- I V, and what it acts on
abbrev pub look_in : (office : ℕ) → List (List ℕ) → Option Ask
look_in o ws = and_then (first_number 7 ws) (λ i. and_then (first_number 4294967295 (drop 1 ws)) (λ v. option_map (λ on. look o on i v) (basis_in (drop 2 ws))))

-- nothing, or `unique`
abbrev pub unique_in : List (List ℕ) → Option Bool
unique_in [] = Some false
unique_in (w ∷ ws) = cond (spells w (codes "unique")) (at_end ws true) None

-- I C, and whether it is unique
abbrev pub make_in : List (List ℕ) → Option Ask
make_in ws = and_then (first_number 7 ws) (λ i. and_then (first_number 7 (drop 1 ws)) (λ c. option_map (make i c) (unique_in (drop 2 ws))))

-- I V
abbrev pub rows_in : List (List ℕ) → Option Ask
rows_in ws = and_then (first_number 7 ws) (λ i. and_then (first_number 4294967295 (drop 1 ws)) (λ v. at_end (drop 2 ws) (rows i v)))

-- I
abbrev pub index_in : List (List ℕ) → Option ℕ
index_in ws = and_then (first_number 7 ws) (at_end (drop 1 ws))

-- what an office asks for by that word
abbrev pub by_office : (office : ℕ) → OfficeVerb → List (List ℕ) → Option Ask
by_office o office.Write ws = write_in o ws
by_office o office.Off ws = off_in o ws
by_office o office.Read ws = read_in o ws
by_office o office.Look ws = look_in o ws
by_office o office.Loan ws = at_end ws (loan o)

-- what is asked of an index by that word
abbrev pub by_index : IndexVerb → List (List ℕ) → Option Ask
by_index index.Make ws = make_in ws
by_index index.Up ws = option_map up (index_in ws)
by_index index.Turn ws = option_map turn (index_in ws)
by_index index.Down ws = option_map down (index_in ws)
by_index index.Fill ws = option_map fill (index_in ws)
by_index index.Clear ws = option_map clear (index_in ws)
by_index index.Rows ws = rows_in ws

-- what is asked behind an office's number
abbrev pub office_in : (office : ℕ) → List (List ℕ) → Option Ask
office_in o [] = None
office_in o (w ∷ ws) = and_then (office_verb w) (λ v. by_office o v ws)

-- a line begins with an office's number or with a word of its own
abbrev pub chosen : Option ℕ → List ℕ → List (List ℕ) → Option Ask
chosen None w ws = and_then (index_verb w) (λ v. by_index v ws)
chosen (Some o) w ws = office_in o ws

-- what the words of a line ask for
abbrev pub ask_in : List (List ℕ) → Option Ask
ask_in [] = None
ask_in (w ∷ ws) = chosen (number_in 63 w) w ws

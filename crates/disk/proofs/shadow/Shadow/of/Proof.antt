-- `of` makes a shadow whose list is what the slice holds. It reads and writes nothing. Assumes `Logic`.
use Rattle.std.proofs.Common.{◌≡◌, ℕ, ◌^◌, ◌<◌, List, [], ◌∷◌, ◌++◌, length, sym, refl, subst}
use seplogic.Ra.Ura.{Ura}
use mir.Syntax.{Fn}
use mir.Val.{Val, vstruct, vnil}
use base.Logic.{SProp, ent, sep, via, fst∗, snd∗}
use prog.Memory.{Memory}
use prog.Routine.{Routine}
use prog.Wp.{Calls, Loops, WpFn, Tables}
use types.Logic.{Logic, sem}
use contract.Monad.{Fun, fact_use}
use contract.Running.{tables, tables_of}
use sound.WpLaws.{WpFn-mono}
use types.Kit.{‵, raw, ◌⊛◌, ◌$◌, ◌∵◌, !, qed, by, move, keep, split, join, fjoin, suffices, done, use0}
use types.Run.{returns, enter, no_more}
use types.Part.{agg}
use types.ByLocal.{alloc_all, pass_all, free_all, look_at, sets}
use denote.Exit.{yes}
use denote.RattleType.{RattleType, owns}
use denote.Laws.{Are, Ises, owns_show, showss}
use denote.Signature.{Slot, types_at, plain}
use denote.Builtin.{SliceRefOf, u8}
use denote.Steps.{nothing}
use denote.Slice.{slice_val}
use denote.Shadow.{makes_shadow}
use denote.Triple.Clauses.{Clauses, closing}
use denote.Triple.Entry.{on_entry, alive}
use denote.Triple.Spec.{Meets, triple_of}
use denote.Triple.Table.{entered}
use denote.Triple.Walked.{Stays, stay_dropped, walk_of, ends_at, Goes-dropped, walk_Meets, says}
use Rattle.disk.specs.declared.shadow.Shadow.{Shadow}
use Rattle.disk.specs.contracts.shadow.Shadow.{the_row}
use Rattle.disk.specs.contracts.shadow.Shadow.of.{ended, clauses}
use Rattle.disk.specs.contracts.shadow.Shadow.of.Key.{name as #self}
use Rattle.disk.proofs.shadow.Shadow.of.Statement as stated
use Rattle.disk.proofs.shadow.Shadow.of.Code as code

abbrev function : Fn
function = code.function

abbrev bytes : Slot 1
bytes = SliceRefOf (0 ∷ []) tt (plain (λ _. u8)) (λ _. tt)

abbrev stayed : Stays ended.signature.params ended.kept
stayed = (stay_dropped bytes yes, tt)

abbrev none : Val
none = vstruct vnil

module _ {M : Type 1} {𝓤 : Ura M} (𝓛 : Logic 𝓤) (mem : Memory → SProp 𝓤) (run : Routine → Fun 𝓤) where
  open 𝓛 use {H}

  abbrev held : Clauses 𝓤 ended
  held = clauses 𝓛 mem run

  module _ (C : Calls 𝓤 H) (Λ : Loops 𝓤 H) (z : (walk_of 𝓛 ended stayed held).Ghost) where
    abbrev n : ℕ
    n = length z.0.3.0.now

    abbrev x : Val
    x = slice_val z.0.3.0.ref_ptr n

    abbrev At : List Val → (walk_of 𝓛 ended stayed held).Ghost
    At us = ((z.0.0, z.0.1, z.0.2, z.0.3, (us, tt)), z.1)

    abbrev Post : List Val → Val → SProp 𝓤
    Post us = (walk_of 𝓛 ended stayed held).post (At us)

    abbrev Goes : List Val → Type 1
    Goes us = ent 𝓤 ((walk_of 𝓛 ended stayed held).pre (At us)) (WpFn 𝓤 H C Λ function (us ++ []) (Post us))

    abbrev made : Shadow
    made = record { bytes = z.0.3.0.now }

    exits : ent 𝓤 (sep 𝓤 (alive 𝓛 ended.signature z.0.0 z.0.1) (sem 𝓛 (the_row.own_val made (none ∷ [])))) (Post (x ∷ []) none)
    exits =
        qed 𝓛 (raw (alive 𝓛 ended.signature z.0.0 z.0.1) ∷ ‵ (the_row.own_val made (none ∷ [])) ∷ []) ∵ suffices ! _ (ends_at 𝓛 ended stayed held (At (x ∷ [])) none made (tt, tt) (tt, tt)) $ says ! refl $
        nothing ! $ nothing ! $ fjoin ! $ move ! (0 ∷ 2 ∷ []) $ join ! $ move ! (1 ∷ 0 ∷ []) $ join ! $ done !

    walks : n < 2 ^ 64 → Goes (x ∷ [])
    walks fits =
        qed 𝓛 ((raw (alive 𝓛 ended.signature z.0.0 z.0.1) ⊛ ‵ (owns (types_at ended.signature.params z.0.0) z.0.3 (x ∷ [], tt))) ∷ raw ((held z.0.0 z.0.3).requires z.1) ∷ []) ∵ split ! $ keep ! (0 ∷ []) $
        enter ! C Λ function (x ∷ []) _ $ alloc_all ! (λ l. pass_all ! refl ((tt, (tt, (record { fits = fits }, tt))), tt) $
        sets ! (agg ! (no_more !)) refl (tt, tt) $
        returns ! (look_at ! 0 refl) $ free_all ! refl $
        use0 𝓛 (‵ (the_row.own_val made (none ∷ []))) (makes_shadow 𝓛 (the_row.own_val made (none ∷ [])) ((λ _. (tt, tt)), tt) ((tt, (refl, tt)), tt)) $
        keep ! (1 ∷ 0 ∷ []) $ by ! exits)

    entry : (us : List Val) → us ≡ x ∷ [] → n < 2 ^ 64 → Goes us
    entry us e fits = subst (λ (u : List Val). Goes u) (sym e) (walks fits)

  meets : (𝓣 : Tables 𝓤 H) → Meets 𝓛 ended.signature (WpFn 𝓤 H 𝓣.C 𝓣.Λ function) (closing 𝓛 ended held)
  meets 𝓣 =
      walk_Meets 𝓛 ended stayed (Goes-dropped 𝓛 1 bytes yes (λ κs x f. refl), tt) held
      (WpFn 𝓤 H 𝓣.C 𝓣.Λ function) (WpFn-mono 𝓤 H 𝓛.laws 𝓣 function)
      (λ z. let a = z.0.3 in let vss = z.0.4 in let Rs : List RattleType = types_at ended.signature.params z.0.0 in
      fact_use 𝓤 (Are Rs (Ises Rs) a vss) (via 𝓤 (sem 𝓛 (owns Rs a vss)) (via 𝓤 (on_entry 𝓛 ended.signature z.0.0 z.0.1 a vss) (fst∗ 𝓤 (on_entry 𝓛 ended.signature z.0.0 z.0.1 a vss) ((held z.0.0 a).requires z.1)) (snd∗ 𝓤 (alive 𝓛 ended.signature z.0.0 z.0.1) (sem 𝓛 (owns Rs a vss)))) (owns_show 𝓛 Rs (Ises Rs) (showss 𝓛 Rs) a vss)) (λ are.
      let h = are.0 in entry 𝓣.C 𝓣.Λ z vss.0 h.0.0 h.0.1.0))

pub of_spec : {M : Type 1} → stated.statement M
unfolding tables_of
of_spec 𝓤 𝓛 𝓜 𝓡 wired =
    let A = 𝓛.A in
    let 𝓣 : Tables 𝓤 𝓛.H = tables_of 𝓤 𝓛.H 𝓜 (tables 𝓤 𝓛.H 𝓜 𝓡 𝓡.env) in
    entered 𝓤 𝓛.H (triple_of 𝓛 ended.signature (closing 𝓛 ended (clauses 𝓛 𝓜.mem 𝓡.returns))) 𝓣.C 𝓣.Λ #self function (code.unfolded 𝓤 𝓛.H 𝓜 𝓡 wired)
    (meets 𝓛 𝓜.mem 𝓡.returns 𝓣)

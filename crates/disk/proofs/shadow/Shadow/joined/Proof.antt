-- `joined` makes a shadow whose list is the two lists joined. It reads and writes nothing. Assumes `Logic`.
use Rattle.std.proofs.Common.{◌≡◌, List, [], ◌∷◌, ◌++◌, sym, refl, subst}
use seplogic.Ra.Ura.{Ura}
use mir.Syntax.{Fn}
use mir.Val.{Val, vptr, vstruct, vnil}
use base.Logic.{SProp, ent, sep, via, fst∗, snd∗}
use prog.Memory.{Memory}
use prog.Routine.{Routine}
use prog.Wp.{Calls, Loops, WpFn, Tables}
use types.Logic.{Logic, sem}
use contract.Monad.{Fun, fact_use}
use contract.Running.{tables, tables_of}
use sound.WpLaws.{WpFn-mono}
use types.Kit.{‵, raw, ◌⊛◌, ◌$◌, ◌∵◌, !, qed, by, move, keep, split, join, fjoin, suffices, done, use0}
use types.Run.{returns, enter, no_more}
use types.Part.{agg}
use types.ByLocal.{alloc_all, pass_all, free_all, look_at, sets}
use denote.Exit.{yes}
use denote.RattleType.{RattleType, owns}
use denote.Laws.{Are, Ises, owns_show, showss}
use denote.Signature.{types_at, plain}
use denote.Builtin.{RefOf}
use denote.Steps.{nothing}
use denote.Shadow.{makes_shadow}
use denote.Triple.Clauses.{Clauses, closing}
use denote.Triple.Entry.{on_entry, alive}
use denote.Triple.Spec.{Meets, triple_of}
use denote.Triple.Table.{entered}
use denote.Triple.Walked.{Stays, stay_dropped, walk_of, ends_at, Goes-dropped, walk_Meets, says}
use Rattle.disk.specs.declared.shadow.Shadow.{Shadow}
use Rattle.disk.specs.contracts.shadow.Shadow.{the_row}
use Rattle.disk.specs.contracts.shadow.Shadow.joined.{ended, clauses}
use Rattle.disk.specs.contracts.shadow.Shadow.joined.Key.{name as #self}
use Rattle.disk.proofs.shadow.Shadow.joined.Statement as stated
use Rattle.disk.proofs.shadow.Shadow.joined.Code as code

abbrev function : Fn
function = code.function

abbrev stayed : Stays ended.signature.params ended.kept
stayed = (stay_dropped (RefOf (0 ∷ []) tt (plain (λ _. the_row)) (λ _. tt)) yes, (stay_dropped (RefOf (1 ∷ []) tt (plain (λ _. the_row)) (λ _. tt)) yes, tt))

abbrev none : Val
none = vstruct vnil

module _ {M : Type 1} {𝓤 : Ura M} (𝓛 : Logic 𝓤) (mem : Memory → SProp 𝓤) (run : Routine → Fun 𝓤) where
  open 𝓛 use {H}

  abbrev held : Clauses 𝓤 ended
  held = clauses 𝓛 mem run

  module _ (C : Calls 𝓤 H) (Λ : Loops 𝓤 H) (z : (walk_of 𝓛 ended stayed held).Ghost) where
    abbrev x : Val
    x = vptr z.0.3.0.ref_ptr.0 z.0.3.0.ref_ptr.1

    abbrev y : Val
    y = vptr z.0.3.1.0.ref_ptr.0 z.0.3.1.0.ref_ptr.1

    abbrev At : List Val → List Val → (walk_of 𝓛 ended stayed held).Ghost
    At us ws = ((z.0.0, z.0.1, z.0.2, z.0.3, (us, (ws, tt))), z.1)

    abbrev Post : List Val → List Val → Val → SProp 𝓤
    Post us ws = (walk_of 𝓛 ended stayed held).post (At us ws)

    abbrev Goes : List Val → List Val → Type 1
    Goes us ws = ent 𝓤 ((walk_of 𝓛 ended stayed held).pre (At us ws)) (WpFn 𝓤 H C Λ function (us ++ (ws ++ [])) (Post us ws))

    abbrev made : Shadow
    made = record { bytes = z.0.3.0.now.bytes ++ z.0.3.1.0.now.bytes }

    exits : ent 𝓤 (sep 𝓤 (alive 𝓛 ended.signature z.0.0 z.0.1) (sem 𝓛 (the_row.own_val made (none ∷ [])))) (Post (x ∷ []) (y ∷ []) none)
    exits =
        qed 𝓛 (raw (alive 𝓛 ended.signature z.0.0 z.0.1) ∷ ‵ (the_row.own_val made (none ∷ [])) ∷ []) ∵ suffices ! _ (ends_at 𝓛 ended stayed held (At (x ∷ []) (y ∷ [])) none made (tt, (tt, tt)) (tt, (tt, tt))) $ says ! refl $
        nothing ! $ nothing ! $ fjoin ! $ nothing ! $ fjoin ! $ move ! (0 ∷ 2 ∷ []) $ join ! $ move ! (1 ∷ 0 ∷ []) $ join ! $ done !

    walks : Goes (x ∷ []) (y ∷ [])
    walks =
        qed 𝓛 ((raw (alive 𝓛 ended.signature z.0.0 z.0.1) ⊛ ‵ (owns (types_at ended.signature.params z.0.0) z.0.3 (x ∷ [], (y ∷ [], tt)))) ∷ raw ((held z.0.0 z.0.3).requires z.1) ∷ []) ∵ split ! $ keep ! (0 ∷ []) $
        enter ! C Λ function (x ∷ y ∷ []) _ $ alloc_all ! (λ l. pass_all ! refl ((tt, tt), ((tt, tt), tt)) $
        sets ! (agg ! (no_more !)) refl (tt, tt) $
        returns ! (look_at ! 0 refl) $ free_all ! refl $
        use0 𝓛 (‵ (the_row.own_val made (none ∷ []))) (makes_shadow 𝓛 (the_row.own_val made (none ∷ [])) ((λ _. (tt, tt)), tt) ((tt, (refl, tt)), tt)) $
        keep ! (1 ∷ 0 ∷ []) $ by ! exits)

    entry : (us ws : List Val) → us ≡ x ∷ [] → ws ≡ y ∷ [] → Goes us ws
    entry us ws e f = subst (λ (u : List Val). Goes u ws) (sym e) (subst (λ (w : List Val). Goes (x ∷ []) w) (sym f) walks)

  meets : (𝓣 : Tables 𝓤 H) → Meets 𝓛 ended.signature (WpFn 𝓤 H 𝓣.C 𝓣.Λ function) (closing 𝓛 ended held)
  meets 𝓣 =
      walk_Meets 𝓛 ended stayed (Goes-dropped 𝓛 2 (RefOf (0 ∷ []) tt (plain (λ _. the_row)) (λ _. tt)) yes (λ κs x f. refl), (Goes-dropped 𝓛 2 (RefOf (1 ∷ []) tt (plain (λ _. the_row)) (λ _. tt)) yes (λ κs x f. refl), tt)) held
      (WpFn 𝓤 H 𝓣.C 𝓣.Λ function) (WpFn-mono 𝓤 H 𝓛.laws 𝓣 function)
      (λ z. let a = z.0.3 in let vss = z.0.4 in let Rs : List RattleType = types_at ended.signature.params z.0.0 in
      fact_use 𝓤 (Are Rs (Ises Rs) a vss) (via 𝓤 (sem 𝓛 (owns Rs a vss)) (via 𝓤 (on_entry 𝓛 ended.signature z.0.0 z.0.1 a vss) (fst∗ 𝓤 (on_entry 𝓛 ended.signature z.0.0 z.0.1 a vss) ((held z.0.0 a).requires z.1)) (snd∗ 𝓤 (alive 𝓛 ended.signature z.0.0 z.0.1) (sem 𝓛 (owns Rs a vss)))) (owns_show 𝓛 Rs (Ises Rs) (showss 𝓛 Rs) a vss)) (λ are.
      entry 𝓣.C 𝓣.Λ z vss.0 vss.1.0 are.0.0 are.1.0.0))

pub joined_spec : {M : Type 1} → stated.statement M
unfolding tables_of
joined_spec 𝓤 𝓛 𝓜 𝓡 wired =
    let A = 𝓛.A in
    let 𝓣 : Tables 𝓤 𝓛.H = tables_of 𝓤 𝓛.H 𝓜 (tables 𝓤 𝓛.H 𝓜 𝓡 𝓡.env) in
    entered 𝓤 𝓛.H (triple_of 𝓛 ended.signature (closing 𝓛 ended (clauses 𝓛 𝓜.mem 𝓡.returns))) 𝓣.C 𝓣.Λ #self function (code.unfolded 𝓤 𝓛.H 𝓜 𝓡 wired)
    (meets 𝓛 𝓜.mem 𝓡.returns 𝓣)

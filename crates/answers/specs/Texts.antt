-- The text of answers.
use Rattle.std.specs.Prelude.{ℕ, ◌+◌, cond, List, [], ◌∷◌, ◌++◌, vec_items, codes, decimal, Option, Some, ◌==◌}
use Rattle.std.specs.Fmt.{◌++?◌}
use Rattle.stage.specs.Stages.{ranks}
use Rattle.change.specs.Heads.{number_of}
use Rattle.change.specs.declared.kinds.Refusal.{Refusal}
use Rattle.change.specs.declared.kinds.Refusal.TheVariants.{OutOfRange, NoLease, NotPublic, NotUnique, OtherStage, NotFilled, NotCleared, OtherWay, LastStage, NoIndex, IndexThere, NotNow, AllDone, Quiet, NoRow}
use Rattle.service.specs.declared.kinds.Answer.{Answer}
use Rattle.service.specs.declared.kinds.Answer.TheVariants.{Done, Row, Keys, Lent, Turned, Refused}

-- numbers with a space before each
abbrev pub spaced : List ℕ → List ℕ
spaced [] = []
spaced (n ∷ ns) = (32 ∷ decimal n) ++ spaced ns

-- texts with a space before each, where each is known
abbrev pub spaced_texts : {X : Type 0} → (X → Option (List ℕ)) → List X → Option (List ℕ)
spaced_texts text [] = Some []
spaced_texts text (x ∷ xs) = (Some (32 ∷ []) ++? text x) ++? spaced_texts text xs

-- a space and I=S, for a stage other than 0
abbrev pub stage_word : (index stage : ℕ) → List ℕ
stage_word i s = cond (s == 0) [] ((32 ∷ decimal i) ++ (61 ∷ decimal s))

-- the stage list of stages from an index on
abbrev pub stage_list : (index : ℕ) → List ℕ → List ℕ
stage_list i [] = []
stage_list i (s ∷ ss) = stage_word i s ++ stage_list (i + 1) ss

-- why, and what to do
abbrev pub reason : Refusal → List ℕ
reason OutOfRange = codes "the line cannot be read, or a number in it is out of range"
reason NoLease = codes "no running loan of this office, this coming-up and these stages: ask for a loan"
reason NotPublic = codes "the index is not in stage 3 in the loan: look by rows, or ask for a loan once it is"
reason NotUnique = codes "another key has that value in a unique index"
reason OtherStage = codes "an office has a loan of another stage: try again once it is over"
reason NotFilled = codes "not all keys are filled: fill first"
reason NotCleared = codes "not all keys are cleared: clear first"
reason OtherWay = codes "the change goes the other way"
reason LastStage = codes "the change has no further stage"
reason NoIndex = codes "there is no such index: make it first"
reason IndexThere = codes "the index is there already"
reason NotNow = codes "the change is not in the stage and way for that"
reason AllDone = codes "all keys are done: go on to the next stage"
reason Quiet = codes "the store came up too short a time ago: try again later"
reason NoRow = codes "there is no such row"

-- a row
abbrev pub row_text : List ℕ → List ℕ
row_text columns = codes "row" ++ spaced columns

-- the keys that were found
abbrev pub keys_text : List ℕ → List ℕ
keys_text ks = codes "keys" ++ spaced ks

-- what calls act on: an epoch and a stage list
abbrev pub claim_text : (epoch : ℕ) → List ℕ → List ℕ
claim_text e ss = (32 ∷ decimal e) ++ stage_list 0 ss

-- a lease: its epoch and its stages
abbrev pub loan_text : (epoch : ℕ) → List ℕ → List ℕ
loan_text e ss = codes "loan" ++ claim_text e ss

-- a refusal: its number, and why
abbrev pub refusal_text : Refusal → List ℕ
refusal_text e = codes "refused" ++ ((32 ∷ decimal (number_of e)) ++ (32 ∷ reason e))

-- an answer, without its end
abbrev pub answer_text : Answer → List ℕ
answer_text Done = codes "ok"
answer_text Turned = codes "turned"
answer_text (Row n) = row_text n.columns
answer_text (Keys v) = keys_text (vec_items v)
answer_text (Lent c) = loan_text c.epoch (ranks c.stages)
answer_text (Refused e) = refusal_text e

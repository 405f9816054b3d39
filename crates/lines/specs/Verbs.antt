-- The words that say what is asked.
use Rattle.std.specs.Prelude.{ℕ, Bool, true, false, cond, ◌&&◌, List, [], ◌∷◌, Some, None, codes, Option, ◌==◌}
use Rattle.lines.specs.declared.verbs.OfficeVerb.{OfficeVerb}
use Rattle.lines.specs.declared.verbs.OfficeVerb.TheVariants.{Write, Off, Read, Look, Loan}
use Rattle.lines.specs.declared.verbs.IndexVerb.{IndexVerb}
use Rattle.lines.specs.declared.verbs.IndexVerb.TheVariants.{Make, Up, Turn, Down, Fill, Clear, Rows}

-- is a word this text
abbrev pub spells : List ℕ → List ℕ → Bool
spells [] [] = true
spells [] (c ∷ cs) = false
spells (b ∷ bs) [] = false
spells (b ∷ bs) (c ∷ cs) = b == c && spells bs cs

-- what a word behind an office's number asks for, if it is one that does
abbrev pub office_verb : List ℕ → Option OfficeVerb
office_verb w = cond (spells w (codes "write")) (Some Write) (cond (spells w (codes "off")) (Some Off) (cond (spells w (codes "read")) (Some Read) (cond (spells w (codes "look")) (Some Look) (cond (spells w (codes "loan")) (Some Loan) None))))

-- what the first word of a line asks for that is no office's, if it is one that does
abbrev pub index_verb : List ℕ → Option IndexVerb
index_verb w = cond (spells w (codes "make")) (Some Make) (cond (spells w (codes "up")) (Some Up) (cond (spells w (codes "turn")) (Some Turn) (cond (spells w (codes "down")) (Some Down) (cond (spells w (codes "fill")) (Some Fill) (cond (spells w (codes "clear")) (Some Clear) (cond (spells w (codes "rows")) (Some Rows) None))))))

-- The bytes of the journal's records, the high byte of each number first.
use Rattle.std.specs.Prelude.{◌≡◌, ℕ, ◌+◌, ◌*◌, ◌/◌, ◌%◌, ◌^◌, ◌<◌, Bool, true, false, cond, List, [], ◌∷◌, ◌++◌, length, Some, None, Option, ◌==◌, nat_le, nat_lt, slice_index}
use Rattle.register.specs.Registers.{Record, put, removed, made, went_up, turned, went_down, filled, cleared, came_up, are_stages}

-- a number of two bytes
abbrev pub two : ℕ → List ℕ
two n = (n / 256 % 256) ∷ (n % 256) ∷ []

-- a number of four bytes
abbrev pub four : ℕ → List ℕ
four n = (n / 16777216 % 256) ∷ (n / 65536 % 256) ∷ (n / 256 % 256) ∷ (n % 256) ∷ []

-- the columns of a row
abbrev pub fours : List ℕ → List ℕ
fours [] = []
fours (c ∷ cs) = four c ++ fours cs

-- how many stages are not 0
abbrev pub known : (stages : List ℕ) → ℕ
known [] = 0
known (s ∷ ss) = cond (s == 0) 0 1 + known ss

-- each stage that is not 0, behind its index
abbrev pub pairs : (firstIndex : ℕ) → (stages : List ℕ) → List ℕ
pairs i [] = []
pairs i (s ∷ ss) = cond (s == 0) (pairs (i + 1) ss) (i ∷ s ∷ pairs (i + 1) ss)

-- the stages of all indexes
abbrev pub stage_bytes : (stages : List ℕ) → List ℕ
stage_bytes ss = known ss ∷ pairs 0 ss

-- a test
abbrev pub flag : Bool → ℕ
flag true = 1
flag false = 0

-- the first byte of a record
abbrev pub kind_of : Record → ℕ
kind_of (put k n ss) = 1
kind_of (removed k ss) = 2
kind_of (made i c u) = 3
kind_of (went_up i) = 4
kind_of (turned i) = 5
kind_of (went_down i) = 6
kind_of (filled i k) = 7
kind_of (cleared i k) = 8
kind_of came_up = 9

-- what follows its first byte
abbrev pub body_of : Record → List ℕ
body_of (put k n ss) = two k ++ (fours n.columns ++ stage_bytes ss)
body_of (removed k ss) = two k ++ stage_bytes ss
body_of (made i c u) = i ∷ c ∷ flag u ∷ []
body_of (went_up i) = i ∷ []
body_of (turned i) = i ∷ []
body_of (went_down i) = i ∷ []
body_of (filled i k) = i ∷ two k
body_of (cleared i k) = i ∷ two k
body_of came_up = []

-- the bytes of a record
abbrev pub bytes_of : Record → List ℕ
bytes_of x = kind_of x ∷ body_of x

-- the bytes of records, the oldest first
unfoldable pub all_bytes : List Record → List ℕ
all_bytes [] = []
all_bytes (x ∷ xs) = bytes_of x ++ all_bytes xs

-- eight columns that fit their bytes
pub record Columns (cs : List ℕ) : Type 0 where
  pub eight : length cs ≡ 8
  pub fit : (i : ℕ) → slice_index cs i < 2 ^ 32

-- a record whose numbers are in range
abbrev pub Writable : Record → Type 0
Writable (put k n ss) = (k < 4096) × Columns n.columns × (are_stages 8 ss ≡ true)
Writable (removed k ss) = (k < 4096) × (are_stages 8 ss ≡ true)
Writable (made i c u) = (i < 8) × (c < 8)
Writable (went_up i) = i < 8
Writable (turned i) = i < 8
Writable (went_down i) = i < 8
Writable (filled i k) = (i < 8) × (k < 4096)
Writable (cleared i k) = (i < 8) × (k < 4096)
Writable came_up = Unit {0}

-- each of these records is in range
unfoldable pub AllWritable : List Record → Type 0
AllWritable [] = Unit {0}
AllWritable (x ∷ xs) = Writable x × AllWritable xs

-- how long a record with stages is: n bytes with their count, then two for each; there is none with more than eight
abbrev pub size_with : (n there count : ℕ) → Option ℕ
size_with n there count = cond (nat_lt there n) (Some n) (cond (nat_le count 8) (Some (n + 2 * count)) None)

-- how long a record is by its first byte, of which so many bytes are there, and by the two places that its count can have
abbrev pub size_by : (kind there atPut atRemoved : ℕ) → Option ℕ
size_by k n c d =
    cond (k == 1) (size_with 36 n c)
    (cond (k == 2) (size_with 4 n d)
    (cond (k == 3) (Some 4)
    (cond (nat_le 4 k) (cond (nat_le k 6) (Some 2) (cond (nat_le k 8) (Some 4) (cond (k == 9) (Some 1) None))) None)))

-- how long the record is that these bytes begin, as far as they tell; none begins with an unknown byte
abbrev pub size_of : List ℕ → Option ℕ
size_of [] = Some 1
size_of (k ∷ bs) = size_by k (length (k ∷ bs)) (slice_index (k ∷ bs) 35) (slice_index (k ∷ bs) 3)

-- is a number below a size
abbrev pub below : ℕ → Option ℕ → Bool
below n None = false
below n (Some m) = nat_lt n m

-- are these bytes fewer than the record has that they begin
abbrev pub is_part : List ℕ → Bool
is_part bs = below (length bs) (size_of bs)

-- What reading a text gives: the tables of a mesh, or the first reason why not.
use Rattle.std.specs.Prelude.{◌≡◌, ℕ, zero, suc, ◌+◌, ◌*◌, Bool, true, false, cond, ◌&&◌, List, [], ◌∷◌, ◌++◌, length, take, drop, Some, None, Ok, Err, Option, Result, ◌==◌, nat_le, nat_lt, slice_index, slice_index_or}
use Rattle.std.specs.List.{flat_map}
use Rattle.mesh.specs.Mesh.{Mesh}
use Rattle.mesh.specs.declared.fault.Fault.{Fault}
use Rattle.mesh.specs.declared.fault.Fault.TheVariants.{BadLine, TooShort}
use Rattle.lines.specs.declared.reader.Counts.{Counts}
use Rattle.lines.specs.Lines.{digit_of}
use Rattle.lines.specs.Text.{word_text}

-- the digits in front of a text, and the number that they write after n
unfoldable pub front : List ℕ → List ℕ
front [] = []
front (b ∷ s) = cond (nat_lt (digit_of b) 16) (b ∷ front s) []

unfoldable pub number : ℕ → List ℕ → ℕ
number n [] = n
number n (b ∷ s) = number (n * 16 + digit_of b) s

unfoldable pub same : List ℕ → List ℕ → Bool
same [] [] = true
same [] (y ∷ ys) = false
same (x ∷ xs) [] = false
same (x ∷ xs) (y ∷ ys) = x == y && same xs ys

-- the word in front, and what comes after it: the number whose text the digits there are
unfoldable pub word : List ℕ → Option (ℕ × List ℕ)
word s =
    let n = number 0 (front s) in
    cond (nat_lt n 16777216 && same (front s) (word_text n)) (Some (n, drop (length (front s)) s)) None

-- one more in front of what was found
abbrev pub before : ℕ → Option (List ℕ × List ℕ) → Option (List ℕ × List ℕ)
before n None = None
before n (Some p) = Some (n ∷ p.0, p.1)

-- k words, with a space before each
unfoldable pub words : ℕ → List ℕ → Option (List ℕ × List ℕ)
words zero s = Some ([], s)
words (suc k) [] = None
words (suc k) (b ∷ s) = cond (b == 32) (elim (word s) [ None ↦ None | Some p ↦ before p.0 (words k p.1) ]) None

-- and byte 10 after them
abbrev pub ended : List ℕ → List ℕ → Option (List ℕ × List ℕ)
ended ns [] = None
ended ns (x ∷ t) = cond (x == 10) (Some (ns, t)) None

-- the line of the kind a, b with k words in front of a text
unfoldable pub line : ℕ → ℕ → ℕ → List ℕ → Option (List ℕ × List ℕ)
line a b k [] = None
line a b k (x ∷ []) = None
line a b k (x ∷ (y ∷ s)) = cond (x == a && y == b) (elim (words k s) [ None ↦ None | Some p ↦ ended p.0 p.1 ]) None

-- so many lines in a row: their words, or which of them is the first that is not there
pub data Rows : Type 0 where
  good : List (List ℕ) → List ℕ → Rows
  bad : ℕ → Rows

abbrev pub after : List ℕ → Rows → Rows
after ns (good rows t) = good (ns ∷ rows) t
after ns (bad i) = bad (suc i)

unfoldable pub lines : ℕ → ℕ → ℕ → ℕ → List ℕ → Rows
lines a b k zero s = good [] s
lines a b k (suc n) s = elim (line a b k s) [ None ↦ bad 0 | Some p ↦ after p.0 (lines a b k n p.1) ]

-- the mesh whose words were read
unfoldable pub mesh_read : ℕ → ℕ → List (List ℕ) → List (List ℕ) → Mesh
mesh_read f v quads starts = record {
  quads = f;
  points = v;
  corners = flat_map (λ ns. take 4 ns) quads;
  friends = flat_map (λ ns. take 2 (drop 4 ns)) quads;
  marks = flat_map (λ ns. take 2 (drop 6 ns)) quads;
  starts = flat_map (λ ns. ns) starts;
}

-- how many words each lent table has room for
pub record Room : Type 0 where
  pub corner_room : ℕ
  pub friend_room : ℕ
  pub mark_room : ℕ
  pub start_room : ℕ

abbrev pub room : List ℕ → List ℕ → List ℕ → List ℕ → Room
room cs fs ms ss = record { corner_room = length cs; friend_room = length fs; mark_room = length ms; start_room = length ss }

unfoldable pub roomy : ℕ → ℕ → Room → Bool
roomy f v r = (nat_le (4 * f) r.corner_room && nat_le (2 * f) r.friend_room) && (nat_le (2 * f) r.mark_room && nat_le v r.start_room)

pub data Reading : Type 0 where
  accepted : Mesh → Reading
  refused : Fault → Reading

-- nothing may come after the lines
abbrev pub complete : ℕ → ℕ → List (List ℕ) → List (List ℕ) → List ℕ → Reading
complete f v quads starts [] = accepted (mesh_read f v quads starts)
complete f v quads starts (x ∷ t) = refused (BadLine (1 + f + v))

-- the lines of the quads, then those of the points
abbrev pub starts_read : ℕ → ℕ → List (List ℕ) → Rows → Reading
starts_read f v quads (bad i) = refused (BadLine (1 + f + i))
starts_read f v quads (good starts t) = complete f v quads starts t

abbrev pub quads_read : ℕ → ℕ → Rows → Reading
quads_read f v (bad i) = refused (BadLine (1 + i))
quads_read f v (good quads t) = starts_read f v quads (lines 48 50 1 v t)

unfoldable pub body_read : ℕ → ℕ → List ℕ → Reading
body_read f v t = quads_read f v (lines 48 49 8 f t)

-- whether the tables are long enough for the counts of line 0, and then the other lines
abbrev pub opened : Room → Option (List ℕ × List ℕ) → Reading
opened r None = refused (BadLine 0)
opened r (Some p) =
    let f = slice_index_or p.0 0 0 in
    let v = slice_index_or p.0 1 0 in
    cond (roomy f v r) (body_read f v p.1) (refused TooShort)

unfoldable pub reading : List ℕ → Room → Reading
reading s r = opened r (line 48 48 2 s)

-- what the call answers
abbrev pub answer : Reading → Result Counts Fault
answer (accepted m) = Ok (record { quads = m.quads; points = m.points })
answer (refused f) = Err f

-- the words that a reading has for a table
abbrev pub words_for : (Mesh → List ℕ) → Reading → List ℕ
words_for table (accepted m) = table m
words_for table (refused f) = []

-- a lent table with words laid over its front
abbrev pub laid : List ℕ → List ℕ → List ℕ
laid ws t = ws ++ drop (length ws) t

-- the four lent tables after a reading, from what they held before
pub record Holds (r : Reading) (cs fs ms ss cs' fs' ms' ss' : List ℕ) : Type 0 where
  pub corners_hold : cs' ≡ laid (words_for (λ m. m.corners) r) cs
  pub friends_hold : fs' ≡ laid (words_for (λ m. m.friends) r) fs
  pub marks_hold : ms' ≡ laid (words_for (λ m. m.marks) r) ms
  pub starts_hold : ss' ≡ laid (words_for (λ m. m.starts) r) ss

-- what reading only line 0 gives
abbrev pub heading : List ℕ → Result Counts Fault
heading s = elim (line 48 48 2 s) [
  | None ↦ Err (BadLine 0)
  | Some p ↦ Ok (record { quads = slice_index p.0 0; points = slice_index p.0 1 })
]

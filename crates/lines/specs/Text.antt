-- The text of a word, of a line and of a mesh. All that is read or written follows from these.
use Rattle.std.specs.Prelude.{ℕ, zero, suc, ◌+◌, ◌/◌, ◌%◌, ◌<◌, cond, List, [], ◌∷◌, ◌++◌, map, take, drop, nat_lt}
use Rattle.std.specs.List.{flat_map, AllByRecursion}
use Rattle.mesh.specs.Mesh.{Mesh}

-- the byte of a digit below 16: '0' to '9', 'a' to 'f'
abbrev pub hex_byte : ℕ → ℕ
hex_byte d = cond (nat_lt d 10) (48 + d) (87 + d)

-- n as k digits
unfoldable pub digits : ℕ → ℕ → List ℕ
digits zero n = []
digits (suc k) n = digits k (n / 16) ++ (hex_byte (n % 16) ∷ [])

-- how many digits n needs, one at least, for an n of up to six
abbrev pub width : ℕ → ℕ
width n = cond (nat_lt n 16) 1 (cond (nat_lt n 256) 2 (cond (nat_lt n 4096) 3 (cond (nat_lt n 65536) 4 (cond (nat_lt n 1048576) 5 6))))

-- a word: one to six digits, and no needless zero in front
unfoldable pub word_text : ℕ → List ℕ
unfolding digits
word_text n = digits (width n) n

-- words, with a space before each
unfoldable pub words_text : List ℕ → List ℕ
unfolding word_text
words_text [] = []
words_text (n ∷ ns) = 32 ∷ (word_text n ++ words_text ns)

-- a line: two kind digits, words, and byte 10
unfoldable pub line_text : ℕ → ℕ → List ℕ → List ℕ
unfolding words_text
line_text a b ns = a ∷ (b ∷ (words_text ns ++ (10 ∷ [])))

-- the words of the lines of k quads: each has four corners, two friends and two marks
unfoldable pub quad_rows : ℕ → List ℕ → List ℕ → List ℕ → List (List ℕ)
quad_rows zero cs fs ms = []
quad_rows (suc k) cs fs ms = (take 4 cs ++ (take 2 fs ++ take 2 ms)) ∷ quad_rows k (drop 4 cs) (drop 2 fs) (drop 2 ms)

-- and of the lines of points: each has a start
unfoldable pub start_rows : List ℕ → List (List ℕ)
start_rows ss = map (λ s. s ∷ []) ss

-- a mesh: a line of kind 00 with its counts, a line of kind 01 for each quad and one of kind 02 for each point
unfoldable pub mesh_text : Mesh → List ℕ
unfolding line_text quad_rows start_rows
mesh_text m =
    line_text 48 48 (m.quads ∷ (m.points ∷ []))
    ++ (flat_map (line_text 48 49) (quad_rows m.quads m.corners m.friends m.marks) ++ flat_map (line_text 48 50) (start_rows m.starts))

-- a number that six digits can write
abbrev pub WordSized : ℕ → Type 0
WordSized n = n < 16777216

-- and a mesh of such numbers
pub record Writable (m : Mesh) : Type 0 where
  pub quads_fit : WordSized m.quads
  pub points_fit : WordSized m.points
  pub corners_fit : AllByRecursion WordSized m.corners
  pub friends_fit : AllByRecursion WordSized m.friends
  pub marks_fit : AllByRecursion WordSized m.marks
  pub starts_fit : AllByRecursion WordSized m.starts

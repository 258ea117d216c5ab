-- What it is for a text to begin with a word, with words or with lines.
use Rattle.std.specs.Prelude.{◌≡◌, ℕ, ◌-◌, ◌^◌, ◌<◌, ◌≤◌, cond, List, [], ◌∷◌, ◌++◌, length, take, nat_lt, slice_index}
use Rattle.std.specs.List.{flat_map, AllByRecursion}
use Rattle.lines.specs.Text.{digits, word_text, line_text, WordSized}

-- the digit that a byte is, and 16 where it is none
abbrev pub digit_of : ℕ → ℕ
digit_of b = cond (nat_lt b 48) 16 (cond (nat_lt b 58) (b - 48) (cond (nat_lt b 97) 16 (cond (nat_lt b 103) (b - 87) 16)))

-- no digit comes next
abbrev pub Ends : List ℕ → Type 0
Ends t = digit_of (slice_index t 0) ≡ 16

-- n is a word that begins s, and t is what comes after it
pub record Word (s : List ℕ) (n : ℕ) (t : List ℕ) : Type 0 where
  pub small : WordSized n
  pub text : s ≡ word_text n ++ t
  pub ends : Ends t

-- s begins with i digits, seven at most, which write n; the next byte is no digit, unless there are seven
pub record Run (s : List ℕ) (n i : ℕ) : Type 0 where
  pub few : i ≤ 7
  pub inside : i ≤ length s
  pub text : take i s ≡ digits i n
  pub fits : n < 16 ^ i
  pub last : i < 7 → digit_of (slice_index s i) ≡ 16

-- a space and then the word n, and t is what comes after it
pub record Spaced (s : List ℕ) (n : ℕ) (t : List ℕ) : Type 0 where
  pub from : List ℕ
  pub space : s ≡ 32 ∷ from
  pub word : Word from n t

-- the words ns, with a space before each, and t is what comes after them
abbrev pub Words : List ℕ → List ℕ → List ℕ → Type 0
Words s [] t = s ≡ t
Words s (n ∷ ns) t = (u : List ℕ) × Spaced s n u × Words u ns t

-- s begins with a line of the kind a, b with the words ns, and t is what comes after it
pub record Line (a b : ℕ) (s ns t : List ℕ) : Type 0 where
  pub small : AllByRecursion WordSized ns
  pub text : s ≡ line_text a b ns ++ t

-- s does not begin with a line of the kind a, b with k words
abbrev pub NoLine : ℕ → ℕ → ℕ → List ℕ → Type 0
NoLine a b k s = (ns t : List ℕ) → length ns ≡ k → Line a b s ns t → ⊥

-- a row of k words
abbrev pub Row : ℕ → List ℕ → Type 0
Row k ns = (length ns ≡ k) × AllByRecursion WordSized ns

-- s begins with a line of the kind a, b for each of the rows, of k words each, and t is what comes after them
pub record Begins (a b k : ℕ) (s : List ℕ) (rows : List (List ℕ)) (t : List ℕ) : Type 0 where
  pub right : AllByRecursion (Row k) rows
  pub text : s ≡ flat_map (line_text a b) rows ++ t

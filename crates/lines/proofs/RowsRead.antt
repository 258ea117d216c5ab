-- Lines in a row, as a loop reads them: some rows are read, and the rest is yet to come.
use Rattle.std.proofs.Common.{◌≡◌, ℕ, suc, ◌+◌, ◌-◌, ◌<◌, List, [], ◌∷◌, ◌++◌, length, get_or, Some, None, Option, sym, refl, ap, ◌∙◌, arith}
use Rattle.lines.specs.Reading.{Rows, good, bad, after, line, lines}

pub one_word : (xs : List ℕ) (d : ℕ) → length xs ≡ 1 → get_or xs 0 d ∷ [] ≡ xs
one_word [] d e = absurd (omega arith)
one_word (x ∷ []) d e = refl
one_word (x ∷ (y ∷ xs)) d e = absurd (omega arith)

pub two_words : (xs : List ℕ) → length xs ≡ 2 → xs ≡ get_or xs 0 0 ∷ (get_or xs 1 0 ∷ [])
two_words [] e = absurd (omega arith)
two_words (x ∷ []) e = absurd (omega arith)
two_words (x ∷ (y ∷ [])) e = refl
two_words (x ∷ (y ∷ (z ∷ xs))) e = absurd (omega arith)

-- rows that were read come before what is yet to be read
abbrev pub afters : List (List ℕ) → Rows → Rows
afters [] x = x
afters (ns ∷ rows) x = after ns (afters rows x)

pub afters_push : (rows : List (List ℕ)) (ns : List ℕ) (x : Rows) → afters (rows ++ ns ∷ []) x ≡ afters rows (after ns x)
afters_push [] ns x = refl
afters_push (ms ∷ rows) ns x = ap (after ms) (afters_push rows ns x)

pub afters_good : (rows : List (List ℕ)) (t : List ℕ) → afters rows (good [] t) ≡ good rows t
afters_good [] t = refl
afters_good (ns ∷ rows) t = ap (after ns) (afters_good rows t)

pub afters_bad : (rows : List (List ℕ)) → afters rows (bad 0) ≡ bad (length rows)
afters_bad [] = refl
afters_bad (ns ∷ rows) = ap (after ns) (afters_bad rows)

-- one line more, or none
module _ (a b k n i : ℕ) (i<n : i < n) (s : List ℕ) where
  left : n - i ≡ suc (n - (i + 1))
  left = omega arith

  pub lines_step : (ns t : List ℕ) → line a b k s ≡ Some (ns, t) → lines a b k (n - i) s ≡ after ns (lines a b k (n - (i + 1)) t)
  unfolding lines
  lines_step ns t e =
      ap (λ (m : ℕ). lines a b k m s) left
      ∙ ap (λ (o : Option (List ℕ × List ℕ)). elim o [ None ↦ bad 0 | Some p ↦ after p.0 (lines a b k (n - (i + 1)) p.1) ]) e

  pub lines_stop : line a b k s ≡ None → lines a b k (n - i) s ≡ bad 0
  unfolding lines
  lines_stop e =
      ap (λ (m : ℕ). lines a b k m s) left
      ∙ ap (λ (o : Option (List ℕ × List ℕ)). elim o [ None ↦ bad 0 | Some p ↦ after p.0 (lines a b k (n - (i + 1)) p.1) ]) e

-- no line is left to read
pub lines_end : (a b k n i : ℕ) (s : List ℕ) → i ≡ n → lines a b k (n - i) s ≡ good [] s
unfolding lines
lines_end a b k n i s e = let z : n - i ≡ 0 = omega arith in ap (λ (m : ℕ). lines a b k m s) z

-- what a loop has after i of n lines: their rows, and what is yet to be read
pub record Sofar (a b k n : ℕ) (s : List ℕ) (rows : List (List ℕ)) (i : ℕ) (rest : List ℕ) : Type 0 where
  pub read : length rows ≡ i
  pub whole : lines a b k n s ≡ afters rows (lines a b k (n - i) rest)

pub sofar_none : (a b k n : ℕ) (s : List ℕ) → Sofar a b k n s [] 0 s
sofar_none a b k n s = let z : n ≡ n - 0 = omega arith in record { read = refl; whole = ap (λ (m : ℕ). lines a b k m s) z }

pub sofar_more : (a b k n : ℕ) (s : List ℕ) (rows : List (List ℕ)) (i : ℕ) (rest ns t : List ℕ) → i < n → Sofar a b k n s rows i rest → line a b k rest ≡ Some (ns, t) → Sofar a b k n s (rows ++ ns ∷ []) (i + 1) t
sofar_more a b k n s rows i rest ns t h f e = record {
  read = length_more rows ∙ ap (λ (x : ℕ). x + 1) f.read;
  whole = f.whole ∙ ap (afters rows) (lines_step a b k n i h rest ns t e) ∙ sym (afters_push rows ns (lines a b k (n - (i + 1)) t));
}
  where
    length_more : (xs : List (List ℕ)) → length (xs ++ ns ∷ []) ≡ length xs + 1
    length_more [] = refl
    length_more (x ∷ xs) = let l = length_more xs in omega arith

pub sofar_bad : (a b k n : ℕ) (s : List ℕ) (rows : List (List ℕ)) (i : ℕ) (rest : List ℕ) → i < n → Sofar a b k n s rows i rest → line a b k rest ≡ None → lines a b k n s ≡ bad i
sofar_bad a b k n s rows i rest h f e = f.whole ∙ ap (afters rows) (lines_stop a b k n i h rest e) ∙ afters_bad rows ∙ ap bad f.read

pub sofar_good : (a b k n : ℕ) (s : List ℕ) (rows : List (List ℕ)) (i : ℕ) (rest : List ℕ) → i ≡ n → Sofar a b k n s rows i rest → lines a b k n s ≡ good rows rest
sofar_good a b k n s rows i rest h f = f.whole ∙ ap (afters rows) (lines_end a b k n i rest h) ∙ afters_good rows rest

-- Lemmas on the words of a line: they are the same however they are read, and what is read is the text. Assumes nothing.
use Rattle.std.proofs.Common.{◌≡◌, ℕ, ◌≤◌, List, [], ◌∷◌, ◌++◌, length, get_or, take, drop, MatchOption, Some, None, Option, sym, refl, ap, ◌∙◌, subst, append_assoc, arith}
use Rattle.std.specs.List.{AllByRecursion}
use Rattle.std.proofs.lemmas.List.{take_all, drop_all}
use Rattle.lines.specs.Lines.{Ends, Word, Spaced, Words, Line}
use Rattle.lines.specs.Text.{word_text, words_text, line_text, WordSized}
use Rattle.lines.proofs.Words.{same_word}

pub carried : {A : Type 0} (o : Option A) {P P' : Type 0} {Q Q' : A → Type 0} → MatchOption o P Q → (P → P') → ((x : A) → Q x → Q' x) → MatchOption o P' Q'
carried None h f g = f h
carried (Some x) h f g = g x h

tail : List ℕ → List ℕ
tail [] = []
tail (x ∷ xs) = xs

pub tails : (u v : List ℕ) → 32 ∷ u ≡ 32 ∷ v → u ≡ v
unfolding tail
tails u v e = ap tail e

pub same_spaced : (s : List ℕ) (n : ℕ) (t : List ℕ) (m : ℕ) (u : List ℕ) → Spaced s n t → Spaced s m u → (n ≡ m) × (t ≡ u)
same_spaced s n t m u p q =
    let P : List ℕ → Type 0 = λ f. Word f n t in
    same_word q.from n t m u (subst P (tails p.from q.from (sym p.space ∙ q.space)) p.word) q.word

-- words that begin where other words begin are the first of them
pub words_front : (ms s u ns t : List ℕ) → Words s ms u → Words s ns t → length ms ≤ length ns → (take (length ms) ns ≡ ms) × Words u (drop (length ms) ns) t
words_front [] s u ns t p q h = (refl, let P : List ℕ → Type 0 = λ x. Words x ns t in subst P p q)
words_front (m ∷ ms) s u [] t p q h = absurd (omega arith)
words_front (m ∷ ms) s u (n ∷ ns) t p q h =
    let e = same_spaced s m p.0 n q.0 p.1 q.1 in
    let P : List ℕ → Type 0 = λ x. Words x ns t in
    let r = words_front ms p.0 u ns t p.2 (subst P (sym e.1) q.2) (omega arith) in
    (ap (λ (x : ℕ). x ∷ take (length ms) ns) (sym e.0) ∙ ap (λ (x : List ℕ). m ∷ x) r.0, r.1)

-- one word more
pub words_push : (ns s u : List ℕ) (n : ℕ) (t : List ℕ) → Words s ns u → Spaced u n t → Words s (ns ++ (n ∷ [])) t
words_push [] s u n t p q = let P : List ℕ → Type 0 = λ x. Spaced x n t in (t, subst P (sym p) q, refl)
words_push (m ∷ ns) s u n t p q = (p.0, p.1, words_push ns p.0 u n t p.2 q)

-- ---- the words and their text
pub words_are_text : (ns s t : List ℕ) → Words s ns t → (s ≡ words_text ns ++ t) × AllByRecursion (WordSized) ns
unfolding words_text
words_are_text [] s t p = (p, tt)
words_are_text (n ∷ ns) s t p =
    let r = words_are_text ns p.0 t p.2 in
    (p.1.space ∙ ap (λ (x : List ℕ). 32 ∷ x) (p.1.word.text ∙ ap (λ (x : List ℕ). word_text n ++ x) r.0 ∙ sym (append_assoc (word_text n) (words_text ns) t)), (p.1.word.small, r.1))

next_ends : (ns t : List ℕ) → Ends t → Ends (words_text ns ++ t)
unfolding words_text
next_ends [] t e = e
next_ends (n ∷ ns) t e = refl

pub text_words : (ns t : List ℕ) → AllByRecursion (WordSized) ns → Ends t → Words (words_text ns ++ t) ns t
unfolding words_text
text_words [] t a e = refl
text_words (n ∷ ns) t a e = (
  words_text ns ++ t,
  record {
    from = word_text n ++ (words_text ns ++ t);
    space = ap (λ (x : List ℕ). 32 ∷ x) (append_assoc (word_text n) (words_text ns) t);
    word = record { small = a.0; text = refl; ends = next_ends ns t e };
  },
  text_words ns t a.1 e,
)

-- ---- a line, by its two kind bytes and its words
pub line_words : (a b : ℕ) (s ns t : List ℕ) → Line a b s ns t → (2 ≤ length s) × (get_or s 0 0 ≡ a) × (get_or s 1 0 ≡ b) × Words (drop 2 s) ns (10 ∷ t)
unfolding line_text
line_words a b s ns t l =
    let e : s ≡ a ∷ (b ∷ (words_text ns ++ (10 ∷ t))) = l.text ∙ ap (λ (x : List ℕ). a ∷ (b ∷ x)) (append_assoc (words_text ns) (10 ∷ []) t) in
    let P : List ℕ → Type 0 = λ x. (2 ≤ length x) × (get_or x 0 0 ≡ a) × (get_or x 1 0 ≡ b) × Words (drop 2 x) ns (10 ∷ t) in
    subst P (sym e) (omega arith, refl, refl, text_words ns (10 ∷ t) l.small refl)

pub first_two : (s : List ℕ) → 2 ≤ length s → s ≡ get_or s 0 0 ∷ (get_or s 1 0 ∷ drop 2 s)
first_two [] h = absurd (omega arith)
first_two (x ∷ []) h = absurd (omega arith)
first_two (x ∷ (y ∷ s)) h = refl

pub words_line : (a b : ℕ) (s ns t : List ℕ) → 2 ≤ length s → get_or s 0 0 ≡ a → get_or s 1 0 ≡ b → Words (drop 2 s) ns (10 ∷ t) → Line a b s ns t
unfolding line_text
words_line a b s ns t h p q w =
    let r = words_are_text ns (drop 2 s) (10 ∷ t) w in
    record {
      small = r.1;
      text = first_two s h ∙ ap (λ (x : ℕ). x ∷ (get_or s 1 0 ∷ drop 2 s)) p ∙ ap (λ (x : ℕ). a ∷ (x ∷ drop 2 s)) q ∙ ap (λ (x : List ℕ). a ∷ (b ∷ x)) (r.0 ∙ sym (append_assoc (words_text ns) (10 ∷ []) t));
    }

-- where the words are read, what is left is the end of the line
pub words_end : (s ms u ns t : List ℕ) → Words s ms u → Words s ns t → length ms ≡ length ns → (ms ≡ ns) × (u ≡ t)
words_end s ms u ns t p q e =
    let r = words_front ms s u ns t p q (omega arith) in
    let P : List ℕ → Type 0 = λ x. Words u x t in
    (sym r.0 ∙ take_all (length ms) ns (omega arith), subst P (drop_all (length ms) ns (omega arith)) r.1)

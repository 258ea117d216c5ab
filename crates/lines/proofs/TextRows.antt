-- The tables of a mesh and the rows of its lines are each other's image.
use Rattle.std.proofs.Common.{◌≡◌, ℕ, zero, suc, ◌+◌, ◌*◌, ◌≤◌, List, [], ◌∷◌, ◌++◌, length, take, drop, sym, refl, ap, ◌∙◌, mul-suc, arith, length-append}
use Rattle.std.specs.List.{flat_map, AllByRecursion}
use Rattle.std.proofs.ByRecursion.{All-append, All-take, All-drop}
use Rattle.std.proofs.lemmas.List.{take_at, drop_at, take_all, drop-drop, take-append-drop, length-take-le, length-drop, nil_from_length}
use Rattle.lines.specs.Lines.{Row}
use Rattle.lines.specs.Text.{quad_rows, start_rows, WordSized}

-- ---- a row of a quad: four corners, two friends, two marks
module _ (a b c : List ℕ) (la : length a ≡ 4) (lb : length b ≡ 2) (lc : length c ≡ 2) where
  pub row_corners : take 4 (a ++ (b ++ c)) ≡ a
  row_corners = take_at a (b ++ c) 4 la

  pub row_friends : take 2 (drop 4 (a ++ (b ++ c))) ≡ b
  row_friends = ap (take 2) (drop_at a (b ++ c) 4 la) ∙ take_at b c 2 lb

  pub row_marks : take 2 (drop 6 (a ++ (b ++ c))) ≡ c
  row_marks =
      ap (take 2) (sym (drop-drop 2 4 (a ++ (b ++ c))) ∙ ap (drop 2) (drop_at a (b ++ c) 4 la) ∙ drop_at b c 2 lb)
      ∙ take_all 2 c (omega arith)

  row_length : length (a ++ (b ++ c)) ≡ 8
  row_length = length-append a (b ++ c) ∙ (let l = length-append b c in omega arith)

row_whole : (ns : List ℕ) → length ns ≡ 8 → take 4 ns ++ (take 2 (drop 4 ns) ++ take 2 (drop 6 ns)) ≡ ns
row_whole ns e =
    let d = length-drop 6 ns in
    ap (λ (x : List ℕ). take 4 ns ++ (take 2 (drop 4 ns) ++ x)) (take_all 2 (drop 6 ns) (omega arith) ∙ sym (drop-drop 2 4 ns))
    ∙ ap (λ (x : List ℕ). take 4 ns ++ x) (take-append-drop 2 (drop 4 ns))
    ∙ take-append-drop 4 ns

part_length : (i k : ℕ) (ns : List ℕ) → i + k ≤ length ns → length (take k (drop i ns)) ≡ k
part_length i k ns h = let d = length-drop i ns in length-take-le k (drop i ns) (omega arith)

-- ---- from rows to tables and back
pub rows_again : (rows : List (List ℕ)) → AllByRecursion (Row 8) rows → quad_rows (length rows) (flat_map (λ ns. take 4 ns) rows) (flat_map (λ ns. take 2 (drop 4 ns)) rows) (flat_map (λ ns. take 2 (drop 6 ns)) rows) ≡ rows
unfolding quad_rows
rows_again [] a = refl
rows_again (ns ∷ rows) a =
    let cs = flat_map (λ ns. take 4 ns) rows in
    let fs = flat_map (λ ns. take 2 (drop 4 ns)) rows in
    let ms = flat_map (λ ns. take 2 (drop 6 ns)) rows in
    let l : length ns ≡ 8 = a.0.0 in
    let lc = length-take-le 4 ns (omega arith) in
    let lf = part_length 4 2 ns (omega arith) in
    let lm = part_length 6 2 ns (omega arith) in
    (λ i. (take_at (take 4 ns) cs 4 lc i ++ (take_at (take 2 (drop 4 ns)) fs 2 lf i ++ take_at (take 2 (drop 6 ns)) ms 2 lm i)) ∷ quad_rows (length rows) (drop_at (take 4 ns) cs 4 lc i) (drop_at (take 2 (drop 4 ns)) fs 2 lf i) (drop_at (take 2 (drop 6 ns)) ms 2 lm i))
    ∙ ap (λ (x : List ℕ). x ∷ quad_rows (length rows) cs fs ms) (row_whole ns l)
    ∙ ap (λ (x : List (List ℕ)). ns ∷ x) (rows_again rows a.1)

pub starts_again : (rows : List (List ℕ)) → AllByRecursion (Row 1) rows → start_rows (flat_map (λ ns. ns) rows) ≡ rows
unfolding start_rows
starts_again [] a = refl
starts_again ([] ∷ rows) a = let l : length {A = ℕ} [] ≡ 1 = a.0.0 in absurd (omega arith)
starts_again ((x ∷ []) ∷ rows) a = ap (λ (r : List (List ℕ)). (x ∷ []) ∷ r) (starts_again rows a.1)
starts_again ((x ∷ (y ∷ ns)) ∷ rows) a = let l : suc (suc (length ns)) ≡ 1 = a.0.0 in absurd (omega arith)

-- ---- from tables to rows and back
pub record Back (k : ℕ) (cs fs ms : List ℕ) : Type 0 where
  pub corners_back : flat_map (λ ns. take 4 ns) (quad_rows k cs fs ms) ≡ cs
  pub friends_back : flat_map (λ ns. take 2 (drop 4 ns)) (quad_rows k cs fs ms) ≡ fs
  pub marks_back : flat_map (λ ns. take 2 (drop 6 ns)) (quad_rows k cs fs ms) ≡ ms
  pub count : length (quad_rows k cs fs ms) ≡ k

pub tables_again : (k : ℕ) (cs fs ms : List ℕ) → length cs ≡ 4 * k → length fs ≡ 2 * k → length ms ≡ 2 * k → Back k cs fs ms
unfolding quad_rows
tables_again zero cs fs ms lc lf lm = record {
  corners_back = sym (nil_from_length cs (omega arith));
  friends_back = sym (nil_from_length fs (omega arith));
  marks_back = sym (nil_from_length ms (omega arith));
  count = refl;
}
tables_again (suc k) cs fs ms lc lf lm =
    let dc = length-drop 4 cs in
    let df = length-drop 2 fs in
    let dm = length-drop 2 ms in
    let a = length-take-le 4 cs (omega arith) in
    let b = length-take-le 2 fs (omega arith) in
    let c = length-take-le 2 ms (omega arith) in
    let r = tables_again k (drop 4 cs) (drop 2 fs) (drop 2 ms) (omega arith) (omega arith) (omega arith) in
    record {
      corners_back = (λ i. row_corners (take 4 cs) (take 2 fs) (take 2 ms) a b c i ++ r.corners_back i) ∙ take-append-drop 4 cs;
      friends_back = (λ i. row_friends (take 4 cs) (take 2 fs) (take 2 ms) a b c i ++ r.friends_back i) ∙ take-append-drop 2 fs;
      marks_back = (λ i. row_marks (take 4 cs) (take 2 fs) (take 2 ms) a b c i ++ r.marks_back i) ∙ take-append-drop 2 ms;
      count = ap suc r.count;
    }

pub quad_rows_right : (k : ℕ) (cs fs ms : List ℕ) → length cs ≡ 4 * k → length fs ≡ 2 * k → length ms ≡ 2 * k → AllByRecursion WordSized cs → AllByRecursion WordSized fs → AllByRecursion WordSized ms → AllByRecursion (Row 8) (quad_rows k cs fs ms)
unfolding quad_rows
quad_rows_right zero cs fs ms lc lf lm wc wf wm = tt
quad_rows_right (suc k) cs fs ms lc lf lm wc wf wm =
    let dc = length-drop 4 cs in
    let df = length-drop 2 fs in
    let dm = length-drop 2 ms in
    let a = length-take-le 4 cs (omega arith) in
    let b = length-take-le 2 fs (omega arith) in
    let c = length-take-le 2 ms (omega arith) in (
      (row_length (take 4 cs) (take 2 fs) (take 2 ms) a b c, All-append WordSized (take 4 cs) (take 2 fs ++ take 2 ms) (All-take WordSized 4 cs wc) (All-append WordSized (take 2 fs) (take 2 ms) (All-take WordSized 2 fs wf) (All-take WordSized 2 ms wm))),
      quad_rows_right k (drop 4 cs) (drop 2 fs) (drop 2 ms) (omega arith) (omega arith) (omega arith) (All-drop WordSized 4 cs wc) (All-drop WordSized 2 fs wf) (All-drop WordSized 2 ms wm),
    )

pub starts_back : (ss : List ℕ) → flat_map (λ ns. ns) (start_rows ss) ≡ ss
unfolding start_rows
starts_back [] = refl
starts_back (s ∷ ss) = ap (λ (x : List ℕ). s ∷ x) (starts_back ss)

pub start_rows_count : (ss : List ℕ) → length (start_rows ss) ≡ length ss
unfolding start_rows
start_rows_count [] = refl
start_rows_count (s ∷ ss) = ap suc (start_rows_count ss)

pub start_rows_right : (ss : List ℕ) → AllByRecursion WordSized ss → AllByRecursion (Row 1) (start_rows ss)
unfolding start_rows
start_rows_right [] w = tt
start_rows_right (s ∷ ss) w = ((refl, (w.0, tt)), start_rows_right ss w.1)

-- ---- parts of rows, joined
module _ (n k : ℕ) (part : List ℕ → List ℕ) (long : (ns : List ℕ) → length ns ≡ n → length (part ns) ≡ k) (among : (ns : List ℕ) → AllByRecursion WordSized ns → AllByRecursion WordSized (part ns)) where
  pub joined_length : (rows : List (List ℕ)) → AllByRecursion (Row n) rows → length (flat_map part rows) ≡ k * length rows
  joined_length [] a = omega arith
  joined_length (ns ∷ rows) a =
      let l = long ns a.0.0 in
      let j = joined_length rows a.1 in
      let m = mul-suc k (length rows) in
      length-append (part ns) (flat_map part rows) ∙ omega arith

  pub joined_sized : (rows : List (List ℕ)) → AllByRecursion (Row n) rows → AllByRecursion WordSized (flat_map part rows)
  joined_sized [] a = tt
  joined_sized (ns ∷ rows) a = All-append WordSized (part ns) (flat_map part rows) (among ns a.0.1) (joined_sized rows a.1)

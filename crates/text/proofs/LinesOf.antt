-- The lines of a mesh one by one, and how long they are.
use Rattle.std.proofs.Common.{◌≡◌, ℕ, zero, suc, ◌+◌, ◌*◌, ◌<◌, ◌≤◌, List, [], ◌∷◌, ◌++◌, length, get_or, take, drop, sym, refl, ap, ◌∙◌, append_assoc, arith, length-append}
use Rattle.std.specs.List.{flat_map}
use Rattle.std.proofs.lemmas.List.{take_more, drop_more, drop-drop, flat_map_more, length-drop, take-append-drop, nil_from_length}
use Rattle.mesh.specs.Mesh.{Mesh, Counted}
use Rattle.lines.specs.Text.{word_text, words_text, line_text, quad_rows, start_rows, mesh_text}
use Rattle.text.proofs.Writes.{length_line}

-- ---- rows one by one
module _ (f : List ℕ → List ℕ) where
  pub joined_next : (rows : List (List ℕ)) (q : ℕ) → q < length rows → flat_map f (take (q + 1) rows) ≡ flat_map f (take q rows) ++ f (get_or rows q [])
  joined_next rows q h = ap (flat_map f) (take_more rows q [] h) ∙ sym (flat_map_more f [] (take q rows) (get_or rows q []))

  pub joined_part : (rows : List (List ℕ)) (n : ℕ) → length (flat_map f (take n rows)) ≤ length (flat_map f rows)
  joined_part [] zero = omega arith
  joined_part [] (suc n) = omega arith
  joined_part (r ∷ rows) zero = omega arith
  joined_part (r ∷ rows) (suc n) =
      let a = joined_part rows n in
      let b = length-append (f r) (flat_map f (take n rows)) in
      let c = length-append (f r) (flat_map f rows) in
      omega arith

take_one : (n : ℕ) (xs : List ℕ) (i : ℕ) → i < length xs → take (suc n) (drop i xs) ≡ get_or xs i 0 ∷ take n (drop (i + 1) xs)
take_one n xs i h = ap (take (suc n)) (drop_more xs i 0 h)

take_two : (xs : List ℕ) (i : ℕ) → i + 2 ≤ length xs → take 2 (drop i xs) ≡ get_or xs i 0 ∷ (get_or xs (i + 1) 0 ∷ [])
take_two xs i h = take_one 1 xs i (omega arith) ∙ ap (λ (x : List ℕ). get_or xs i 0 ∷ x) (take_one 0 xs (i + 1) (omega arith))

take_four : (xs : List ℕ) (i : ℕ) → i + 4 ≤ length xs → take 4 (drop i xs) ≡ get_or xs i 0 ∷ (get_or xs (i + 1) 0 ∷ (get_or xs (i + 2) 0 ∷ (get_or xs (i + 3) 0 ∷ [])))
take_four xs i h =
    let a : i + 1 + 1 ≡ i + 2 = omega arith in
    let b : i + 2 + 1 ≡ i + 3 = omega arith in
    take_one 3 xs i (omega arith)
    ∙ ap (λ (x : List ℕ). get_or xs i 0 ∷ x) (take_one 2 xs (i + 1) (omega arith) ∙ ap (λ (k : ℕ). get_or xs (i + 1) 0 ∷ take 2 (drop k xs)) a)
    ∙ ap (λ (x : List ℕ). get_or xs i 0 ∷ (get_or xs (i + 1) 0 ∷ x)) (take_one 1 xs (i + 2) (omega arith) ∙ ap (λ (k : ℕ). get_or xs (i + 2) 0 ∷ take 1 (drop k xs)) b)
    ∙ ap (λ (x : List ℕ). get_or xs i 0 ∷ (get_or xs (i + 1) 0 ∷ (get_or xs (i + 2) 0 ∷ x))) (take_one 0 xs (i + 3) (omega arith))

part_at : (k : ℕ) (cs fs ms : List ℕ) (q : ℕ) → q < k → get_or (quad_rows k cs fs ms) q [] ≡ take 4 (drop (4 * q) cs) ++ (take 2 (drop (2 * q) fs) ++ take 2 (drop (2 * q) ms))
unfolding quad_rows
part_at zero cs fs ms q h = absurd (omega arith)
part_at (suc k) cs fs ms zero h = refl
part_at (suc k) cs fs ms (suc q) h =
    let a : 4 + 4 * q ≡ 4 * suc q = omega arith in
    let b : 2 + 2 * q ≡ 2 * suc q = omega arith in
    let c = drop-drop (4 * q) 4 cs ∙ ap (λ (i : ℕ). drop i cs) a in
    let d = drop-drop (2 * q) 2 fs ∙ ap (λ (i : ℕ). drop i fs) b in
    let e = drop-drop (2 * q) 2 ms ∙ ap (λ (i : ℕ). drop i ms) b in
    part_at k (drop 4 cs) (drop 2 fs) (drop 2 ms) q (omega arith) ∙ (λ i. take 4 (c i) ++ (take 2 (d i) ++ take 2 (e i)))

pub rows_count : (k : ℕ) (cs fs ms : List ℕ) → length (quad_rows k cs fs ms) ≡ k
unfolding quad_rows
rows_count zero cs fs ms = refl
rows_count (suc k) cs fs ms = ap suc (rows_count k (drop 4 cs) (drop 2 fs) (drop 2 ms))

-- the words of quad q
module _ (cs fs ms : List ℕ) (q : ℕ) where
  abbrev pub row : List ℕ
  row = get_or cs (4 * q) 0 ∷ (get_or cs (4 * q + 1) 0 ∷ (get_or cs (4 * q + 2) 0 ∷ (get_or cs (4 * q + 3) 0 ∷ (get_or fs (2 * q) 0 ∷ (get_or fs (2 * q + 1) 0 ∷ (get_or ms (2 * q) 0 ∷ (get_or ms (2 * q + 1) 0 ∷ [])))))))

  pub row_at : (k : ℕ) → q < k → length cs ≡ 4 * k → length fs ≡ 2 * k → length ms ≡ 2 * k → get_or (quad_rows k cs fs ms) q [] ≡ row
  row_at k h lc lf lm =
      part_at k cs fs ms q h
      ∙ (λ i. take_four cs (4 * q) (omega arith) i ++ (take_two fs (2 * q) (omega arith) i ++ take_two ms (2 * q) (omega arith) i))

pub start_at : (ss : List ℕ) (v : ℕ) → v < length ss → get_or (start_rows ss) v [] ≡ get_or ss v 0 ∷ []
unfolding start_rows
start_at [] v h = absurd (omega arith)
start_at (s ∷ ss) zero h = refl
start_at (s ∷ ss) (suc v) h = start_at ss v (omega arith)

pub starts_count : (ss : List ℕ) → length (start_rows ss) ≡ length ss
unfolding start_rows
starts_count [] = refl
starts_count (s ∷ ss) = ap suc (starts_count ss)

-- ---- how many bytes
abbrev pub bytes : List ℕ → ℕ
bytes ws = length (words_text ws)

words_append : (xs ys : List ℕ) → words_text (xs ++ ys) ≡ words_text xs ++ words_text ys
unfolding words_text
words_append [] ys = refl
words_append (x ∷ xs) ys = ap (λ (t : List ℕ). 32 ∷ (word_text x ++ t)) (words_append xs ys) ∙ ap (λ (t : List ℕ). 32 ∷ t) (sym (append_assoc (word_text x) (words_text xs) (words_text ys)))

bytes_append : (xs ys : List ℕ) → bytes (xs ++ ys) ≡ bytes xs + bytes ys
bytes_append xs ys = ap length (words_append xs ys) ∙ length-append (words_text xs) (words_text ys)

bytes_split : (n : ℕ) (xs : List ℕ) → bytes (take n xs) + bytes (drop n xs) ≡ bytes xs
bytes_split n xs = sym (bytes_append (take n xs) (drop n xs)) ∙ ap bytes (take-append-drop n xs)

bytes_none : (xs : List ℕ) → length xs ≡ 0 → bytes xs ≡ 0
unfolding words_text
bytes_none xs e = ap bytes (nil_from_length xs e)

pub quad_bytes : (k : ℕ) (cs fs ms : List ℕ) → length cs ≡ 4 * k → length fs ≡ 2 * k → length ms ≡ 2 * k → length (flat_map (line_text 48 49) (quad_rows k cs fs ms)) ≡ 3 * k + (bytes cs + (bytes fs + bytes ms))
unfolding quad_rows
quad_bytes zero cs fs ms lc lf lm =
    let a = bytes_none cs (omega arith) in
    let b = bytes_none fs (omega arith) in
    let c = bytes_none ms (omega arith) in
    omega arith
quad_bytes (suc k) cs fs ms lc lf lm =
    let dc = length-drop 4 cs in
    let df = length-drop 2 fs in
    let dm = length-drop 2 ms in
    let r = quad_bytes k (drop 4 cs) (drop 2 fs) (drop 2 ms) (omega arith) (omega arith) (omega arith) in
    let ns = take 4 cs ++ (take 2 fs ++ take 2 ms) in
    let l = length-append (line_text 48 49 ns) (flat_map (line_text 48 49) (quad_rows k (drop 4 cs) (drop 2 fs) (drop 2 ms))) in
    let n = length_line 48 49 ns in
    let a = bytes_append (take 4 cs) (take 2 fs ++ take 2 ms) in
    let b = bytes_append (take 2 fs) (take 2 ms) in
    let x = bytes_split 4 cs in
    let y = bytes_split 2 fs in
    let z = bytes_split 2 ms in
    omega arith

pub start_bytes : (ss : List ℕ) → length (flat_map (line_text 48 50) (start_rows ss)) ≡ 3 * length ss + bytes ss
unfolding start_rows words_text
start_bytes [] = omega arith
start_bytes (s ∷ ss) =
    let r = start_bytes ss in
    let l = length-append (line_text 48 50 (s ∷ [])) (flat_map (line_text 48 50) (start_rows ss)) in
    let n = length_line 48 50 (s ∷ []) in
    let a = bytes_append (s ∷ []) ss in
    omega arith

pub text_bytes : (m : Mesh) → Counted m → length (mesh_text m) ≡ 3 * (1 + m.quads + m.points) + (bytes (m.quads ∷ (m.points ∷ [])) + (bytes m.corners + (bytes m.friends + (bytes m.marks + bytes m.starts))))
unfolding mesh_text
text_bytes m c =
    let head = line_text 48 48 (m.quads ∷ (m.points ∷ [])) in
    let quads = flat_map (line_text 48 49) (quad_rows m.quads m.corners m.friends m.marks) in
    let starts = flat_map (line_text 48 50) (start_rows m.starts) in
    let a = length-append head (quads ++ starts) in
    let b = length-append quads starts in
    let h = length_line 48 48 (m.quads ∷ (m.points ∷ [])) in
    let q = quad_bytes m.quads m.corners m.friends m.marks c.corner_count c.friend_count c.mark_count in
    let s = start_bytes m.starts in
    let n = c.start_count in
    omega arith

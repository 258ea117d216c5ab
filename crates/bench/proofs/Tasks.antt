-- A task's writes, one table after the other.
use Rattle.std.proofs.Common.{◌≡◌, ℕ, suc, ◌+◌, ◌*◌, ◌/◌, ◌%◌, ◌<◌, ◌≤◌, Bool, eqb, List, [], ◌∷◌, length, get_or, set, take, drop, Some, sym, refl, ap, ◌∙◌, inl, inr, append_assoc, arith}
use Rattle.std.specs.List.{position, position_or_len}
use Rattle.std.proofs.lemmas.Bool.{cases_lt, cond-true, lt-ltb}
use Rattle.std.proofs.lemmas.Bool.Decides.{nat_tests}
use Rattle.std.proofs.lemmas.List.Edits.{sets, sets-eq}
use Rattle.std.proofs.lemmas.List.Quantifiers.{position-Some}
use Rattle.std.proofs.lemmas.List.Sums.{position_or_len_is}
use Rattle.mesh.specs.Causes.{mesh_of}
use Rattle.mesh.specs.Count.{least}
use Rattle.mesh.specs.Mesh.{Mesh, friend, mark, start as point_start}
use Rattle.refinement.specs.Tasks.{quad_task, point_task, put, from, new_corners, old_slot, face_slot, edge_slot, fallen, corner_writes}
use Rattle.refinement.proofs.Totals.{least_is, least_fails, least_passes}
use Rattle.tables.specs.Lent.{mesh}
use Rattle.tables.specs.declared.lent.Tables.{Tables}
use Rattle.layout.specs.Layout.{block, standing_in, laid, shifted, after_task}
use Rattle.bench.specs.Writes.{friends_by, marks_by, starts_by}

shifted_from : (a b k : ℕ) (xs : List ℕ) → shifted a (from b k xs) ≡ from (a + b) k xs
shifted_from a b k [] = refl
shifted_from a b k (x ∷ xs) =
    let e : a + (b + k) ≡ a + b + k = omega arith in
    ap (λ n. (n, x) ∷ shifted a (from b (suc k) xs)) e ∙ ap (λ ps. (a + b + k, x) ∷ ps) (shifted_from a b (suc k) xs)

-- words side by side, laid over others
put_from : (xs ws : List ℕ) (a k : ℕ) → put (from a k xs) ws ≡ sets ws (a + k) xs
unfolding put
put_from [] ws a k = refl
put_from (x ∷ xs) ws a k = let e : a + suc k ≡ suc (a + k) = omega arith in put_from xs (set ws (a + k) x) a (suc k) ∙ ap (λ i. sets (set ws (a + k) x) i xs) e

side_by_side : (xs ws : List ℕ) (a : ℕ) → a + length xs ≤ length ws → put (from a 0 xs) ws ≡ laid ws a xs
side_by_side xs ws a h =
    let e : a + 0 ≡ a = omega arith in
    put_from xs ws a 0 ∙ ap (λ i. sets ws i xs) e ∙ sets-eq xs ws a h ∙ append_assoc (take a ws) xs (drop (a + length xs) ws)

-- what the lent tables of the standing level say
module _ (t : Tables) (ws : List ℕ) (F V : ℕ) (is : mesh t ≡ standing_in ws F V) where
  pub friend_lent : (o : ℕ) → get_or t.friends.now o 0 ≡ friend (standing_in ws F V) o
  unfolding mesh_of
  friend_lent o = ap (λ m. friend m o) is

  pub mark_lent : (o : ℕ) → get_or t.marks.now o 0 ≡ mark (standing_in ws F V) o
  unfolding mesh_of
  mark_lent o = ap (λ m. mark m o) is

  pub start_lent : (v : ℕ) → get_or t.starts.now v 0 ≡ point_start (standing_in ws F V) v
  unfolding mesh_of
  start_lent v = ap (λ m. point_start m v) is

module _ (F V q g0 g1 m0 m1 a b : ℕ) (ws row w1 w2 w3 w4 w5 : List ℕ) where
  pub quad_writes : a ≡ 8 * F + V → b ≡ 43 * F + 2 * V → a + 16 * q + 16 ≤ length ws → g0 ≡ friend (standing_in ws F V) (2 * q) → g1 ≡ friend (standing_in ws F V) (2 * q + 1) →
      m0 ≡ fallen (mark (standing_in ws F V) (2 * q)) → m1 ≡ fallen (mark (standing_in ws F V) (2 * q + 1)) →
      row ≡ new_corners (standing_in ws F V) q →
      w1 ≡ laid ws (a + 16 * q) row → w2 ≡ put (shifted (a + 4 * (4 * F)) (friends_by q g0 g1)) w1 →
      w3 ≡ put (shifted (a + 6 * (4 * F)) (marks_by q g0 g1 m0 m1)) w2 → w4 ≡ put (shifted (a + 8 * (4 * F)) (starts_by q g0 g1)) w3 →
      w5 ≡ set w4 (b + q) 1 → w5 ≡ after_task (standing_in ws F V) (quad_task q) ws
  unfolding put
  quad_writes ea eb room eg0 eg1 em0 em1 er e1 e2 e3 e4 e5 =
      let m = standing_in ws F V in
      let s : from (8 * F + V + 16 * q) 0 row ≡ shifted (8 * F + V) (corner_writes m (quad_task q)) =
      ap (from (8 * F + V + 16 * q) 0) er ∙ sym (shifted_from (8 * F + V) (16 * q) 0 (new_corners m q)) in
      let l : length row ≡ 16 = ap length er in
      let k = side_by_side row ws (a + 16 * q) (omega arith) in
      cc

pub point_writes : (F V v slot start a b : ℕ) (ws : List ℕ) → a ≡ 8 * F + V → b ≡ 43 * F + 2 * V → slot ≡ old_slot (standing_in ws F V) v → start ≡ point_start (standing_in ws F V) v →
    set (set ws (a + 8 * (4 * F) + slot) (4 * start)) (b + (F + v)) 1 ≡ after_task (standing_in ws F V) (point_task v) ws
unfolding put
point_writes F V v slot start a b ws ea eb e f = cc

-- a slot, and how far up it may be
pub old_slot_there : (m : Mesh) (v : ℕ) → old_slot m v ≤ 3 * m.quads + v
unfolding old_slot
old_slot_there m v = grind (arith, nat_tests)

pub face_slot_is : (q : ℕ) → face_slot q ≡ 4 * q + 1
unfolding face_slot
face_slot_is q = refl

pub edge_slot_is : (e : ℕ) → edge_slot e ≡ 4 * (e / 2) + 2 + e % 2
unfolding edge_slot
edge_slot_is e = refl

pub edge_slot_there : (e : ℕ) → edge_slot e ≤ 2 * e + 3
unfolding edge_slot
edge_slot_there e = omega arith

pub slot_fits : (quads v r : ℕ) → ((m : Mesh) → m.quads ≡ quads → r ≡ old_slot m v) → r ≤ 3 * quads + v
slot_fits quads v r is =
    let m : Mesh = record { quads = quads; points = 0; corners = []; friends = []; marks = []; starts = [] } in
    let e = is m refl in
    let k = old_slot_there m v in
    omega arith

-- the lowest task that has yet to run, and the count of tasks where all have
abbrev pub first_left : List ℕ → ℕ → ℕ → ℕ
first_left ws F V = least (λ i. eqb (get_or (block ws (43 * F + 2 * V) (F + V)) i 0) 0) (F + V)

-- by the words that say which tasks have run
module _ (xs : List ℕ) (n : ℕ) (l : length xs ≡ n) where
  pub one_left : (k : ℕ) → position (λ w. eqb w 0) xs ≡ Some k → (k ≡ least (λ i. eqb (get_or xs i 0) 0) n) × (k < n)
  one_left k e =
      let p = position-Some (λ w. eqb w 0) xs k 0 e in
      let h = p.0 in
      (sym (least_is (λ i. eqb (get_or xs i 0) 0) n k (omega arith) p.1 p.2), omega arith)

  -- the lowest one passes, and so position would find it
  pub none_left : ((k : ℕ) → position (λ w. eqb w 0) xs ≡ Some k → ⊥) → n ≤ least (λ i. eqb (get_or xs i 0) 0) n
  none_left none = elim (cases_lt (least (λ i. eqb (get_or xs i 0) 0) n) n) [
    | inl h ↦
        let p : ℕ → Bool = λ i. eqb (get_or xs i 0) 0 in
        let is = position_or_len_is (λ w. eqb w 0) xs (least p n) 0 (omega arith) (λ k b. least_fails p n k b) (λ b. least_passes p n h) in
        absurd (none _ (cond-true _ _ _ (lt-ltb (position_or_len (λ w. eqb w 0) xs) (length xs) (omega arith))))
    | inr h ↦ h
  ]

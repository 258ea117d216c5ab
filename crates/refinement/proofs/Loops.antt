-- What code over lent tables needs: a walk step by step, the first fault of a table, and words laid side by side.
use Rattle.std.proofs.Common.{◌≡◌, ℕ, zero, suc, ◌+◌, ◌*◌, ◌%◌, ◌<◌, ◌≤◌, Bool, true, false, not, eqb, List, [], ◌∷◌, ◌++◌, length, get_or, take, set, sym, refl, ap, ◌∙◌, arith}
use Rattle.std.proofs.lemmas.List.{take_more, take_all, length-take-le}
use Rattle.refinement.specs.Tasks.{put, from, old_slot, face_slot, edge_slot, new_corners}
use Rattle.std.proofs.lemmas.Bool.{ne_eqb, not_from_true, not_from_false}
use Rattle.mesh.specs.Count.{least}
use Rattle.mesh.specs.Mesh.{Mesh, off_edge, start, step, walk, longest, valence}
use Rattle.refinement.proofs.Totals.{least_is, least_none}
use Rattle.refinement.proofs.Walks.{valence_is}

pub step_is : (m : Mesh) (fs : List ℕ) (c o : ℕ) → m.friends ≡ fs → o ≡ off_edge c → 2 * get_or fs o 0 + c % 2 ≡ step m c
unfolding step
step_is m fs c o e f = rw (e, f)

-- the walk one step on, by the code's count
pub walk_more : (m : Mesh) (v n c d : ℕ) → c ≡ walk m v n → d ≡ step m c → d ≡ walk m v (n + 1)
unfolding walk
walk_more m v n c d e f = let z : suc n ≡ n + 1 = omega arith in f ∙ ap (step m) e ∙ ap (walk m v) z

pub walk_first : (m : Mesh) (v c : ℕ) → start m v ≡ c → c ≡ walk m v 0
unfolding walk
walk_first m v c e = sym e

pub valence_back : (m : Mesh) (v n : ℕ) → n < longest → walk m v (n + 1) ≡ start m v → ((i : ℕ) → i < n → walk m v (suc i) ≡ start m v → ⊥) → n + 1 ≡ valence m v
valence_back m v n l e f = sym (valence_is m v (n + 1) (omega arith) (omega arith) e (λ i p k. before i p (omega arith)))
  where
    before : (i : ℕ) → 0 < i → i < n + 1 → walk m v i ≡ start m v → ⊥
    before zero p k q = omega arith
    before (suc i) p k q = f i (omega arith) q

pub valence_none : (m : Mesh) (v : ℕ) → ((i : ℕ) → i < longest → walk m v (suc i) ≡ start m v → ⊥) → suc longest ≡ valence m v
unfolding valence
valence_none m v f = sym (ap suc (least_none (λ i. eqb (walk m v (suc i)) (start m v)) longest (λ i l. ne_eqb _ _ (f i l))))

-- the first place that fails
pub first_fault : (ok : ℕ → Bool) (n i : ℕ) → i < n → ok i ≡ false → ((k : ℕ) → k < i → ok k ≡ true) → i ≡ least (λ k. not (ok k)) n
first_fault ok n i l e f = sym (least_is (λ k. not (ok k)) n i l (not_from_false (ok i) e) (λ k h. not_from_true (ok k) (f k h)))

pub no_fault : (ok : ℕ → Bool) (n : ℕ) → ((k : ℕ) → k < n → ok k ≡ true) → n ≡ least (λ k. not (ok k)) n
no_fault ok n f = sym (least_none (λ k. not (ok k)) n (λ k h. not_from_true (ok k) (f k h)))

-- words laid side by side, one more
put_push : (ws : List (ℕ × ℕ)) (w : ℕ × ℕ) (t : List ℕ) → put (ws ++ w ∷ []) t ≡ set (put ws t) w.0 w.1
unfolding put
put_push [] w t = refl
put_push (x ∷ ws) w t = put_push ws w (set t x.0 x.1)

from_push : (a i : ℕ) (xs : List ℕ) (y k : ℕ) → i + length xs ≡ k → from a i (xs ++ y ∷ []) ≡ from a i xs ++ ((a + k, y) ∷ [])
from_push a i [] y k e = let z : i ≡ k = omega arith in rw z
from_push a i (x ∷ xs) y k e = ap (λ ws. (a + i, x) ∷ ws) (from_push a (suc i) xs y k (omega arith))

pub lay_more : (a : ℕ) (xs : List ℕ) (k : ℕ) (t : List ℕ) → k < length xs → put (from a 0 (take (k + 1) xs)) t ≡ set (put (from a 0 (take k xs)) t) (a + k) (get_or xs k 0)
lay_more a xs k t l =
    let e : 0 + length (take k xs) ≡ k = let z = length-take-le k xs (omega arith) in omega arith in
    ap (λ ys. put (from a 0 ys) t) (take_more xs k 0 l) ∙ ap (λ ws. put ws t) (from_push a 0 (take k xs) (get_or xs k 0) k e) ∙ put_push (from a 0 (take k xs)) (a + k, get_or xs k 0) t

pub lay_none : (a : ℕ) (xs t : List ℕ) → t ≡ put (from a 0 (take 0 xs)) t
unfolding put
lay_none a xs t = refl

pub lay_all : (a : ℕ) (xs t : List ℕ) (k : ℕ) → length xs ≤ k → put (from a 0 (take k xs)) t ≡ put (from a 0 xs) t
lay_all a xs t k l = ap (λ ys. put (from a 0 ys) t) (take_all k xs l)

-- the row of a quad task, from what its parts are
pub row_is : (m : Mesh) (cs fs : List ℕ) (q w0 w1 w2 w3 e0 e1 : ℕ) → m.corners ≡ cs → m.friends ≡ fs →
    w0 ≡ old_slot m (get_or cs (4 * q) 0) → w1 ≡ old_slot m (get_or cs (4 * q + 1) 0) → w2 ≡ old_slot m (get_or cs (4 * q + 2) 0) → w3 ≡ old_slot m (get_or cs (4 * q + 3) 0) →
    e0 ≡ edge_slot (get_or fs (2 * q) 0) → e1 ≡ edge_slot (get_or fs (2 * q + 1) 0) →
    (w0 ∷ (4 * q + 2) ∷ (4 * q + 1) ∷ e1 ∷ w1 ∷ e0 ∷ (4 * q + 1) ∷ (4 * q + 2) ∷ w2 ∷ (4 * q + 3) ∷ (4 * q + 1) ∷ e0 ∷ w3 ∷ e1 ∷ (4 * q + 1) ∷ (4 * q + 3) ∷ []) ≡ new_corners m q
unfolding face_slot edge_slot
row_is m cs fs q w0 w1 w2 w3 e0 e1 a b h0 h1 h2 h3 k0 k1 =
    let d0 : 4 * q + 2 ≡ edge_slot (2 * q) = omega arith in
    let d1 : 4 * q + 3 ≡ edge_slot (2 * q + 1) = omega arith in
    cc

-- The lines after line 0: what reading them gives, from what reading the quads' and the points' gives.
use Rattle.std.proofs.Common.{◌≡◌, ℕ, ◌+◌, ◌*◌, ◌<◌, ◌≤◌, true, false, ◌&&◌, leb, List, [], ◌∷◌, length, Some, None, sym, refl, ap, ◌∙◌, subst, arith}
use Rattle.std.proofs.lemmas.Bool.{and_parts, leb-true, cond-true, cond-false}
use Rattle.mesh.specs.Mesh.{Mesh}
use Rattle.mesh.specs.declared.fault.Fault.{Fault}
use Rattle.mesh.specs.declared.fault.Fault.TheVariants.{BadLine, TooShort}
use Rattle.lines.specs.Reading.{Rows, good, bad, line, lines, Room, roomy, Holds, opened, reading, Reading, accepted, refused, mesh_read, starts_read, quads_read, body_read}

module _ (f v : ℕ) (t : List ℕ) where
  pub quad_missing : (i : ℕ) → lines 48 49 8 f t ≡ bad i → body_read f v t ≡ refused (BadLine (1 + i))
  unfolding body_read
  quad_missing i e = ap (quads_read f v) e

  module _ (quads : List (List ℕ)) (u : List ℕ) (e : lines 48 49 8 f t ≡ good quads u) where
    pub start_missing : (i : ℕ) → lines 48 50 1 v u ≡ bad i → body_read f v t ≡ refused (BadLine (1 + f + i))
    unfolding body_read
    start_missing i g = ap (quads_read f v) e ∙ ap (starts_read f v quads) g

    module _ (starts : List (List ℕ)) where
      pub all_there : lines 48 50 1 v u ≡ good starts [] → body_read f v t ≡ accepted (mesh_read f v quads starts)
      unfolding body_read
      all_there g = ap (quads_read f v) e ∙ ap (starts_read f v quads) g

      pub surplus : (w : List ℕ) → lines 48 50 1 v u ≡ good starts w → 0 < length w → body_read f v t ≡ refused (BadLine (1 + f + v))
      unfolding body_read
      surplus [] g h = absurd (omega arith)
      surplus (x ∷ w) g h = ap (quads_read f v) e ∙ ap (starts_read f v quads) g

  -- what was accepted was read from rows
  pub record Accepted (m : Mesh) : Type 0 where
    pub quads : List (List ℕ)
    pub starts : List (List ℕ)
    pub between : List ℕ
    pub quads_there : lines 48 49 8 f t ≡ good quads between
    pub starts_there : lines 48 50 1 v between ≡ good starts []
    pub mesh_is : m ≡ mesh_read f v quads starts

  by_starts : (m : Mesh) (quads : List (List ℕ)) (u : List ℕ) (y : Rows) → lines 48 49 8 f t ≡ good quads u → lines 48 50 1 v u ≡ y → starts_read f v quads y ≡ accepted m → Accepted m
  by_starts m quads u (bad i) e g h = let z : ◌≡◌ {A = ℕ} 0 1 = cc in absurd (omega arith)
  by_starts m quads u (good starts []) e g h = record { quads = quads; starts = starts; between = u; quads_there = e; starts_there = g; mesh_is = cc }
  by_starts m quads u (good starts (x ∷ w)) e g h = let z : ◌≡◌ {A = ℕ} 0 1 = cc in absurd (omega arith)

  by_quads : (m : Mesh) (x : Rows) → lines 48 49 8 f t ≡ x → quads_read f v x ≡ accepted m → Accepted m
  by_quads m (bad i) e h = let z : ◌≡◌ {A = ℕ} 0 1 = cc in absurd (omega arith)
  by_quads m (good quads u) e h = by_starts m quads u (lines 48 50 1 v u) e refl h

  pub accepted_from_rows : (m : Mesh) → body_read f v t ≡ accepted m → Accepted m
  unfolding body_read
  accepted_from_rows m h = by_quads m (lines 48 49 8 f t) refl h

-- ---- line 0, and the room in the tables
pub roomy_parts : (f v : ℕ) (r : Room) → roomy f v r ≡ true → (4 * f ≤ r.corner_room) × (2 * f ≤ r.friend_room) × (2 * f ≤ r.mark_room) × (v ≤ r.start_room)
unfolding roomy
roomy_parts f v r e =
    let p = and_parts (leb (4 * f) r.corner_room && leb (2 * f) r.friend_room) (leb (2 * f) r.mark_room && leb v r.start_room) e in
    let q = and_parts (leb (4 * f) r.corner_room) (leb (2 * f) r.friend_room) p.0 in
    let s = and_parts (leb (2 * f) r.mark_room) (leb v r.start_room) p.1 in
    (leb-true (4 * f) r.corner_room q.0, leb-true (2 * f) r.friend_room q.1, leb-true (2 * f) r.mark_room s.0, leb-true v r.start_room s.1)

module _ (s : List ℕ) (r : Room) where
  pub no_heading : line 48 48 2 s ≡ None → reading s r ≡ refused (BadLine 0)
  unfolding reading
  no_heading e = ap (opened r) e

  module _ (f v : ℕ) (t : List ℕ) (e : line 48 48 2 s ≡ Some (f ∷ (v ∷ []), t)) where
    pub no_room : roomy f v r ≡ false → reading s r ≡ refused TooShort
    unfolding reading
    no_room z = ap (opened r) e ∙ cond-false (roomy f v r) (body_read f v t) (refused TooShort) z

    pub with_room : roomy f v r ≡ true → reading s r ≡ body_read f v t
    unfolding reading
    with_room z = ap (opened r) e ∙ cond-true (roomy f v r) (body_read f v t) (refused TooShort) z

-- a refusal leaves the tables as they were
pub held : (rd : Reading) (f : Fault) (cs fs ms ss : List ℕ) → rd ≡ refused f → Holds rd cs fs ms ss cs fs ms ss
held rd f cs fs ms ss e =
    let P : Reading → Type 0 = λ x. Holds x cs fs ms ss cs fs ms ss in
    subst P (sym e) (record { corners_hold = refl; friends_hold = refl; marks_hold = refl; starts_hold = refl })

-- A text that is read is loaded as the mesh that its tables then hold.
use Rattle.std.proofs.Common.{◌≡◌, ℕ, ◌*◌, ◌/◌, List, length, take, drop, false, Some, Ok, Err, Result, MatchResult, sym, refl, ap, ◌∙◌, subst, arith}
use Rattle.std.specs.Result.{is_ok, IsErr}
use Rattle.std.proofs.lemmas.List.{take_at}
use Rattle.mesh.specs.Mesh.{Mesh}
use Rattle.mesh.specs.Causes.{mesh_of}
use Rattle.mesh.specs.Refusals.{Verdict, fine, declined, told, number_of, place_of}
use Rattle.mesh.specs.declared.fault.Fault.{Fault}
use Rattle.lines.specs.Laws.{TextOf, HasRoom}
use Rattle.lines.specs.Reading.{Room, Reading, accepted, refused, reading, answer, laid, Holds}
use Rattle.lines.specs.declared.reader.Counts.{Counts}
use Rattle.lines.proofs.Exactly.{reading_is_exact}
use Rattle.chain.specs.Calls.{Call, State, load, load_text, tables_of, read_mesh, either, carry}
use Rattle.chain.specs.Clauses.{Called}
use Rattle.text.specs.Loads.{told_text, Whose}
use Rattle.text.specs.declared.load.TextFault.{TextFault}
use Rattle.text.specs.declared.load.TextFault.TheVariants.{Unread, Unloaded}
use Rattle.chain.proofs.Runs.{called, declines, texts_load_as_tables}

-- what reading answered
pub record WasRead (o : Reading) (n : Counts) : Type 0 where
  pub mesh : Mesh
  pub is : o ≡ accepted mesh
  pub quads_are : n.quads ≡ mesh.quads
  pub points_are : n.points ≡ mesh.points

pub was_read : (o : Reading) (n : Counts) → Ok n ≡ answer o → WasRead o n
was_read (accepted m) n e = record { mesh = m; is = refl; quads_are = cc; points_are = cc }
was_read (refused f) n e = let z : ◌≡◌ {A = ℕ} 0 1 = cc in absurd (omega arith)

pub was_refused : (o : Reading) (f : Fault) → Err f ≡ answer o → o ≡ refused f
was_refused (accepted m) f e = let z : ◌≡◌ {A = ℕ} 0 1 = cc in absurd (omega arith)
was_refused (refused g) f e = cc

-- a text that was not read
pub unread : (s : State) (bytes : List ℕ) (r : Room) (f : Fault) → reading bytes r ≡ refused f → Called s (load_text bytes r) s (declined (number_of f) (place_of f))
unread s bytes r f e = declines s (load_text bytes r) (number_of f) (place_of f) ((texts_load_as_tables s bytes r).unread_answers f e)

pub unread_call : {A : Type 0} (s : State) (bytes : List ℕ) (r : Room) (n : Result Counts Fault) (x : Result A TextFault) → n ≡ answer (reading bytes r) → false ≡ is_ok n → IsErr x → Whose (reading bytes r) x → Called s (load_text bytes r) s (told_text x)
unread_call s bytes r n (Ok x) a k i w = let q : ◌≡◌ {A = ℕ} 0 1 = cc in absurd (omega arith)
unread_call s bytes r n (Err (Unread f)) a k i w = unread s bytes r f w
unread_call s bytes r n (Err (Unloaded f)) a k i w =
    let z = k ∙ ap is_ok (a ∙ ap answer w.1) in
    let q : ◌≡◌ {A = ℕ} 0 1 = cc in
    absurd (omega arith)

-- what a load answered, with its refusals as those of what was read
pub told_as_text : {A : Type 0} (a : Result A Fault) (b : Result A TextFault) → MatchResult a (λ x. b ≡ Ok x) (λ f. b ≡ Err (Unloaded f)) → told a ≡ told_text b
told_as_text (Ok x) b h = ap told_text (sym h)
told_as_text (Err f) b h = ap told_text (sym h)

module _ (m : Mesh) (bytes : List ℕ) (r : Room) (e : reading bytes r ≡ accepted m) where
  told_text_of : TextOf m bytes × HasRoom m.quads m.points r
  told_text_of = (reading_is_exact bytes r (accepted m)).only_so e

  pub has_room : HasRoom m.quads m.points r
  has_room = told_text_of.1

  -- the load of what lies in the front of the tables is the load of the text
  module _ (n : Counts) (cs fs ms ss cs' fs' ms' ss' : List ℕ) (q : n.quads ≡ m.quads) (v : n.points ≡ m.points) (h : Holds (accepted m) cs fs ms ss cs' fs' ms' ss') where
    front : (ws t u : List ℕ) (k : ℕ) → length ws ≡ k → u ≡ laid ws t → take k u ≡ ws
    front ws t u k l g = ap (take k) g ∙ take_at ws (drop (length ws) t) k l

    pub loaded : (s s' : State) (a : Verdict) → Called s (load (take (4 * n.quads) cs') (take (2 * n.quads) fs') (take (2 * n.quads) ms') (take n.points ss')) s' a → Called s (load_text bytes r) s' a
    loaded s s' a c =
        let k = told_text_of.0.counted in
        let P : Call → Type 0 = λ x. Called s x s' a in
        let lc = k.corner_count in
        let lf = k.friend_count in
        let lm = k.mark_count in
        let ls = k.start_count in
        let d = subst P (λ i. load
        (front m.corners cs cs' (4 * n.quads) (omega arith) h.corners_hold i)
        (front m.friends fs fs' (2 * n.quads) (omega arith) h.friends_hold i)
        (front m.marks ms ms' (2 * n.quads) (omega arith) h.marks_hold i)
        (front m.starts ss ss' n.points (omega arith) h.starts_hold i)) c in
        let t = texts_load_as_tables s bytes r in
        called s s' (load_text bytes r) a (d.answers ∙ sym (t.read_answers m e)) (d.leaves ∙ sym (t.read_leaves m e))

    -- the tables that were read are those of the mesh
    same_tables : tables_of m ≡ m
    unfolding mesh_of
    same_tables =
        let k = told_text_of.0.counted in
        let c = k.corner_count in
        let f : length m.corners / 4 ≡ m.quads = omega arith in
        λ i. record { quads = f i; points = k.start_count i; corners = m.corners; friends = m.friends; marks = m.marks; starts = m.starts }

    -- and where the load is carried out, they stand
    pub stands : (s s' : State) → Called s (load_text bytes r) s' fine → (x : Mesh) × (s'.standing ≡ Some x) × TextOf x bytes
    stands s s' c =
        let a = ap (λ (v : Verdict). (either v (carry s (load_text bytes r)) s).standing) (sym c.answers) in
        let b = ap (λ (o : Reading). read_mesh o) e in
        (m, ap (λ (t : State). t.standing) c.leaves ∙ a ∙ b ∙ ap Some same_tables, told_text_of.0)

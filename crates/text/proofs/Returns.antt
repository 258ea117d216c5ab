-- The text of a lawful mesh can be read again, and what writing it on a bench answers.
use Rattle.std.proofs.Common.{◌≡◌, ℕ, ltb, List, length, get_or, take, drop, Some, Ok, Err, Option, Result, sym, ap, ◌∙◌, inl, inr, arith}
use Rattle.std.proofs.lemmas.List.{take_at}
use Rattle.std.proofs.lemmas.Bool.{cond-true, cond-false, lt-ltb, le-ltb}
use Rattle.std.proofs.ByRecursion.{All-from_get_or}
use Rattle.mesh.specs.Marks.{MarkWord}
use Rattle.mesh.specs.Mesh.{Mesh, Lawful}
use Rattle.mesh.specs.Refusals.{fine, declined, number_of, place_of}
use Rattle.mesh.specs.declared.fault.Fault.{Fault}
use Rattle.lines.specs.Text.{mesh_text, WordSized, Writable}
use Rattle.chain.specs.Calls.{State, cause, missing}
use Rattle.text.specs.Put.{Put, Written}
use Rattle.text.specs.Writes.{text_of, write_refusal, Writes}

mark_sized : (w : ℕ) → MarkWord w → WordSized w
mark_sized w (inl h) = omega arith
mark_sized w (inr h) = omega arith

pub lawful_writable : (m : Mesh) → Lawful m → Writable m
lawful_writable m l =
    let s = l.sound in
    let c = s.counted in
    let q = s.quads_few in
    let p = s.points_few in
    let cc' = c.corner_count in
    let cf = c.friend_count in
    let cm = c.mark_count in
    let cs = c.start_count in
    record {
      quads_fit = omega arith;
      points_fit = omega arith;
      corners_fit = All-from_get_or WordSized m.corners 0 (λ i h. let k = s.corners_have_points i (omega arith) in omega arith);
      friends_fit = All-from_get_or WordSized m.friends 0 (λ i h. let k = s.friends_are_edges i (omega arith) in omega arith);
      marks_fit = All-from_get_or WordSized m.marks 0 (λ i h. mark_sized (get_or m.marks i 0) (s.marks_are_words i (omega arith)));
      starts_fit = All-from_get_or WordSized m.starts 0 (λ i h. let k = s.starts_are_corners i (omega arith) in omega arith);
    }

-- a text in the front of a buffer
front_text : (e t o : List ℕ) (n : ℕ) → Put e 0 t n o → take n o ≡ t
front_text e t o n p = let l : length t ≡ n = (let q = p.place in omega arith) in ap (take n) p.text ∙ take_at t (drop n e) n l

module _ (s : State) (m : Mesh) (e o : List ℕ) (k : s.standing ≡ Some m) (law : Lawful m) where
  refusal_is : write_refusal s (length e) ≡ cause 22 0 (ltb (length e) (length (mesh_text m))) fine
  refusal_is = ap (λ (x : Option Mesh). cause 12 0 (missing x) (cause 22 0 (ltb (length e) (length (text_of x))) fine)) k

  pub writes : (r : Result ℕ Fault) → Written (mesh_text m) e o r → Writes s e o r
  writes (Ok n) w = record {
    answers = sym (refusal_is ∙ cond-false (ltb (length e) (length (mesh_text m))) (declined 22 0) fine (le-ltb (length e) (length (mesh_text m)) w.0));
    leaves = (m, k, w.1, record { counted = law.sound.counted; writable = lawful_writable m law; text = front_text e (mesh_text m) o n w.1 });
  }
  writes (Err f) w = record {
    answers = ap (λ (x : Fault). declined (number_of x) (place_of x)) w.0 ∙ sym (refusal_is ∙ cond-true (ltb (length e) (length (mesh_text m))) (declined 22 0) fine (lt-ltb (length e) (length (mesh_text m)) w.1));
    leaves = w.2;
  }

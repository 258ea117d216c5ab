-- The greatest mark, at any off-edge of the pillow, and one that is greater.
use Rattle.std.proofs.Common.{◌≡◌, ℕ, zero, suc, ◌<◌, ◌≤◌, ltb, refl, ap, ◌∙◌, arith}
use Rattle.std.proofs.lemmas.Bool.{cond-false, le-ltb}
use Rattle.mesh.specs.Causes.{judge, mesh_of}
use Rattle.mesh.specs.Mesh.{Lawful}
use Rattle.mesh.specs.Refusals.{Verdict, fine, declined}
use Rattle.refinement.specs.Pillow.{pillow}
use Rattle.refinement.proofs.Causes.{judges}
use Rattle.chain.specs.Calls.{made, refusal, and_next, cause}
use Rattle.worked_examples.specs.Given.{marked_at, marks_at, load_with}
use Rattle.worked_examples.proofs.Opened.{judging}

judged_fine : (o : ℕ) → o < 4 → judge (marked_at o 4096) ≡ fine
unfolding judging pillow
judged_fine zero h = refl
judged_fine (suc zero) h = refl
judged_fine (suc (suc zero)) h = refl
judged_fine (suc (suc (suc zero))) h = refl
judged_fine (suc (suc (suc (suc o)))) h = absurd (omega arith)

judged_no_mark : (o : ℕ) → o < 4 → judge (marked_at o 4097) ≡ declined 6 o
unfolding judging pillow
judged_no_mark zero h = refl
judged_no_mark (suc zero) h = refl
judged_no_mark (suc (suc zero)) h = refl
judged_no_mark (suc (suc (suc zero))) h = refl
judged_no_mark (suc (suc (suc (suc o)))) h = absurd (omega arith)

pub most_lawful : (o : ℕ) → o < 4 → Lawful (marked_at o 4096)
most_lawful o h = (judges (marked_at o 4096)).only_lawful (judged_fine o h)

module _ (words mark o : ℕ) where
  -- what is tried after the tables
  abbrev then : Verdict → Verdict
  then v = and_next v (cause 14 0 (ltb words 20) fine)

  pub most_loads : 20 ≤ words → o < 4 → refusal (made words mark) (load_with (marks_at o 4096)) ≡ fine
  unfolding mesh_of pillow
  most_loads e h = ap then (judged_fine o h) ∙ cond-false (ltb words 20) (declined 14 0) fine (le-ltb words 20 e)

  pub more_refused : o < 4 → refusal (made words mark) (load_with (marks_at o 4097)) ≡ declined 6 o
  unfolding mesh_of pillow
  more_refused h = ap then (judged_no_mark o h)

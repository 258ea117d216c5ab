-- What the words that the tests passed are good for: every off-edge of the tables can be read, and a step from a corner is to a corner.
use Rattle.std.proofs.Common.{◌≡◌, ℕ, suc, ◌+◌, ◌*◌, ◌%◌, ◌<◌, sym, refl, ap, ◌∙◌, arith}
use Rattle.mesh.specs.Count.{total}
use Rattle.mesh.specs.Mesh.{Mesh, Sound, RunsBack, point, friend, off_edge, step, most_quads}
use Rattle.refinement.proofs.Steps.{off_edge_below}
use Rattle.tables.specs.Edges.{Reads, RecordOf, Steps}
use Rattle.tables.specs.declared.edge.EdgeRecord.{EdgeRecord}
use Rattle.tables.specs.Passed.{Worded}

pub all_read : (m : Mesh) → Worded m → (o : ℕ) → o < 2 * m.quads → Reads m o
all_read m w o h =
    let f = w.sized.counted.friend_count in
    let k = w.sized.counted.mark_count in
    record { in_corners = h; in_friends = omega arith; in_marks = omega arith; a_mark = w.marks_are_words o h }

pub corner_reads : (m : Mesh) → Worded m → (c o : ℕ) → c < 4 * m.quads → o ≡ off_edge c → Reads m o
corner_reads m w c o h e = let l = off_edge_below c m.quads h in all_read m w o (omega arith)

-- a question for a step from a corner has an answer
pub all_step : (m : Mesh) → Worded m → (c : ℕ) → c < 4 * m.quads → Steps m c
all_step m w c h = record {
  reads = corner_reads m w c (off_edge c) h refl;
  quads_few = w.sized.quads_few;
  an_edge = w.friends_are_edges (off_edge c) (off_edge_below c m.quads h);
}

-- a sound mesh has all that the tests up to 6 tell
pub sound_worded : (m : Mesh) → Sound m → Worded m
sound_worded m s = record {
  sized = record { counted = s.counted; quads_few = s.quads_few; points_few = s.points_few };
  friends_are_edges = s.friends_are_edges;
  marks_are_words = s.marks_are_words;
}

-- a step by the friend g of the off-edge o
pub step_by : (m : Mesh) (c o g : ℕ) → o ≡ off_edge c → g ≡ friend m o → 2 * g + c % 2 ≡ step m c
unfolding step
step_by m c o g e f = rw (f, e)

pub friend_below : (m : Mesh) → Worded m → (c o g : ℕ) → c < 4 * m.quads → o ≡ off_edge c → g ≡ friend m o → (g < 2 * m.quads) × (g < 2 * most_quads)
friend_below m w c o g h e f =
    let l = off_edge_below c m.quads h in
    let b = w.friends_are_edges o (omega arith) in
    let q = w.sized.quads_few in
    (omega arith, omega arith)

-- whether the friend runs the other way, by the record
module _ (m : Mesh) (o : ℕ) (e : EdgeRecord) (r : RecordOf m o e) where
  pub runs_back : point m (2 * e.friend.0) ≡ e.end.0 → point m (2 * e.friend.0 + 1) ≡ e.begin.0 → RunsBack m o
  runs_back a b =
      let f = r.friend_is in
      record {
        from_end = ap (λ g. point m (2 * g)) (sym f) ∙ a ∙ r.end_is;
        to_beginning = ap (λ g. point m (2 * g + 1)) (sym f) ∙ b ∙ r.begin_is;
      }

  pub back_at_end : RunsBack m o → point m (2 * e.friend.0) ≡ e.end.0
  back_at_end b = ap (λ g. point m (2 * g)) r.friend_is ∙ b.from_end ∙ sym r.end_is

  pub back_at_beginning : RunsBack m o → point m (2 * e.friend.0 + 1) ≡ e.begin.0
  back_at_beginning b = ap (λ g. point m (2 * g + 1)) r.friend_is ∙ b.to_beginning ∙ sym r.begin_is

-- a sum, one more term on
pub total_none : (f : ℕ → ℕ) → total f 0 ≡ 0
unfolding total
total_none f = refl

pub total_more : (f : ℕ → ℕ) (n x : ℕ) → x ≡ f n → total f n + x ≡ total f (n + 1)
unfolding total
total_more f n x e = let z : suc n ≡ n + 1 = omega arith in ap (λ y. total f n + y) e ∙ ap (total f) z

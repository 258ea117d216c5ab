use Rattle.std.proofs.Common.{◌≡◌, ◌+◌, rules, sym, ap, ◌∙◌, arith}
use Rattle.std.specs.Option.{option_map}
use Rattle.mesh.specs.Marks.{word_of}
use Rattle.carry.proofs.Walks.{seen_smooth, seen_semi_sharp, seen_infinite}
use Rattle.carry.proofs.seen.Around.more.Goals as goal
use Rattle.carry.proofs.seen.Around.more.Goals.{in-Smooth, in-SemiSharp, in-Infinite}

pub returns-clause-sees : goal.returns-clause-sees
returns-clause-sees c = λ m cs k e s. elim c.match-mark.branch [
  | in-Smooth w ↦ seen_smooth m cs k c.args.self _ s (ap word_of (sym w.in-Smooth.is) ∙ e) (ap (λ r. r.1.0) w.result-is) (ap (λ r. r.1.1.0) w.result-is)
  | in-SemiSharp w ↦
      let x = w.value.ensures in
      let y = w.from-value.ensures in
      let low = w.in-SemiSharp.sharpness.some in
      let high = w.in-SemiSharp.sharpness.most in
      let sum : w.map.result ≡ option_map (λ n. n + w.from-value.result) c.args.self.sum = search rules in
      seen_semi_sharp m cs k c.args.self _ s w.from-value.result (y ∙ x ∙ ap word_of (sym w.in-SemiSharp.is) ∙ e) (omega arith) (omega arith) (ap (λ r. r.1.0) w.result-is) (ap (λ r. r.1.1.0) w.result-is ∙ sum)
  | in-Infinite w ↦ seen_infinite m cs k c.args.self _ s (ap word_of (sym w.in-Infinite.is) ∙ e) (ap (λ r. r.1.0) w.result-is) (ap (λ r. r.1.1.0) w.result-is)
]

-- `samples::sample_rising` meets its contract.
use mathlib.Core.Path.{sym, ap, ◌∙◌}
use Prim.Native.Nat.{ℕ, ◌+◌}
use lib.ListN.{length}
use Rattle.meaning.proofs.Filling.{length-listed}
use Rattle.samples.specs.Samples.{sample_at}
use Rattle.samples.proofs.Sampled.{all_rising, part_sampled}
use Rattle.samples.proofs.sample_rising.Goals as goal

pub returns-then-w1-w0 : goal.returns-then-w1-w0
returns-then-w1-w0 c =
    let a = c.args in record {
      fact_1 = ap (λ (k : ℕ). a.at + k) (sym (ap length (all_rising a.w0 a.w1 a.per c.if-w1-w0.true) ∙ length-listed 0 a.per (sample_at a.w0 a.w1 a.per)));
      fact_2 = part_sampled a.w0 a.w1 a.per a.at a.room.now c.sample_pair.new.room c.requires.fact_1 c.if-w1-w0.true c.sample_pair.ensures;
    }

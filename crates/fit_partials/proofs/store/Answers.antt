-- `fit_partials::store` meets its contract: the number's array has 27 places, so that it lies in the cell as it is.
use mathlib.Core.Path.{◌≡◌}
use lib.ListN.{length}
use Rattle.meaning.specs.Search.{every}
use Rattle.fit_partials.proofs.Tidy.{tidy_normal}
use Rattle.fit_partials.proofs.Laid.{room_there, laid_one}
use borrow.Author.Rules.{rules}
use Rattle.fit_partials.proofs.store.Goals as goal
use Rattle.fit_partials.proofs.store.Goals.{Start}

long : (c : Start) → length c.args.v.g ≡ 27
long c = let h = c.well_formed in search rules

pub returns : goal.returns
unfolding every
returns c =
    let a = c.args in
    let r = c.requires.fact_1 in
    record {
      laid = laid_one a.c a.w.now a.ns.now a.k a.v (room_there a.c a.k a.w.now a.ns.now r)
          (tidy_normal a.c a.v r.narrow (long (goal.at.returns c).Start) c.requires.fact_2) c.put.ensures.fact_1 c.put.ensures.fact_2;
      judged = c.is_fine.ensures;
    }

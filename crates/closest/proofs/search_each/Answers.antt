-- `closest::search_each` meets its contract: a turn searches for one point.
use mathlib.Core.Path.{◌≡◌, refl, ap, ◌∙◌}
use native.Mathlib.Omega.{arith}
use borrow.Author.Rules.{rules}
use Rattle.many.proofs.Asked.{asked_all}
use Rattle.outcome.specs.Told.{told}
use Rattle.shape.specs.Spline.{trusted_spline}
use Rattle.closest.specs.Search.{closest_answer}
use Rattle.closest.proofs.Each.{turned_first, turned_next}
use Rattle.closest.proofs.Pairs.{all_left, within, point_is, less_left, none_left}
use Rattle.closest.proofs.search_each.Goals as goal

pub loop-k-init : goal.loop-k-init
loop-k-init c =
    let none : c.into_iter-k-iterator.result.count ≡ 0 = search rules in record {
      turned = rw none (turned_first refl);
      rest = all_left (search rules) (search rules) none;
    }

pub loop-k-preserved : goal.loop-k-preserved
loop-k-preserved c =
    let l = c.loop-k.invariant in
    let s = c.in-Some.ensures.steps in
    let pair = c.in-Some.point.now in
    let rest = c.next.new.self.iter.rest.now in
    let low = within l.rest pair rest s.0.1.0 s.0.1.1 in
    let is = c.answer.ensures ∙ ap (closest_answer (trusted_spline c.args.curve)) (point_is l.rest pair rest s.0.1.0 s.0.1.1) in record {
      turned = rw s.2 (turned_next c.requires.fact_2 l.turned low (told c.answer.result) is (rw s.1 at c.hand.ensures.fact_1, rw s.1 at c.hand.ensures.fact_2));
      rest = less_left l.rest pair rest s.0.1.0 s.0.1.1 s.0.0 s.2;
    }

pub returns : goal.returns
returns c =
    let l = c.loop-k.invariant in
    let s = c.in-None.ensures.steps in
    asked_all l.turned.asked (omega (arith, l.turned.low, none_left l.rest s.0.1.0))

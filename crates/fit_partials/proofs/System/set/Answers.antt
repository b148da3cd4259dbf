-- `fit_partials::System::set` meets its contract: a row of a point, or one of the two at the ends.
use Rattle.std.proofs.Common.{◌≡◌, sym, ap, subst, ◌∙◌, ◌*◌, ◌+◌, ◌<◌, ℕ, length}
use Rattle.meaning.specs.Scalar.{zero64}
use Rattle.meaning.specs.Table.{at1}
use Rattle.partials.specs.declared.Dv.{Dv}
use Rattle.partials.specs.Dual.{dual}
use Rattle.plane.specs.Vector.{Vector}
use Rattle.fit_partials.specs.Stored.{Tidy, span_row, found_fit_row}
use Rattle.fit_partials.proofs.Tidy.{cst_tidy}
use Rattle.fit_partials.proofs.Numbers.{window_tidy, variables_tidy, four_tidy}
use Rattle.fit_partials.proofs.Laid.{stored_as}
use Rattle.fit_partials.proofs.Rows.{span-row, point_numbers, end_numbers}
use Rattle.fit_partials.proofs.System.set.Goals as goal
use Rattle.fit_partials.proofs.System.set.Goals.{After-window_of-six}

-- the six knots and the parameter have numbers that lie in a cell as they are
six-tidy : (c : After-window_of-six) → (j : ℕ) → Tidy c.args.c (at1 dual c.window_of-six.result j)
six-tidy c =
    let k = c.args.self.now.k.now in
    subst (λ (l : _). (j : ℕ) → Tidy c.args.c (at1 dual l j)) (sym c.window_of-six.ensures) (window_tidy c.args.c k c.span-i.result c.requires.fact_2.knots)

t-tidy : (c : After-window_of-six) → Tidy c.args.c (at1 dual c.args.self.now.p.now c.station.result)
t-tidy c = c.requires.fact_2.parameters c.station.result c.station.ensures.1

-- what the code reads for the row makes the definition's
numbers : (c : After-window_of-six) → let s = c.args.self.now in let n = length s.p.now in (k : ℕ) → k < n + 2 + 2
    → span_row c.window_of-six.result c.span-i.result (at1 dual s.p.now c.station.result) s.q.now n c.args.r k
    ≡ at1 dual (found_fit_row s.k.now s.u.now s.p.now s.q.now n c.args.r) k
numbers c k h =
    let s = c.args.self.now in
    let n = length s.p.now in
    let span = c.span-i.ensures in
    let ready = c.requires.fact_2 in
    span-row s.k.now s.u.now s.p.now s.q.now n c.args.r _ span.fact_1 span.fact_3 span.fact_4 c.window_of-six.ensures ready.first ready.last
    (ap (at1 dual s.p.now) c.station.ensures.0) k h

pub fill_row-requires-clause-fact_2 : goal.fill_row-requires-clause-fact_2
fill_row-requires-clause-fact_2 c =
    let a = c.args in
    let step = (goal.at.fill_row-requires-clause-fact_2 c).After-window_of-six in
    let point = c.point-b.ensures in
    let tidy = variables_tidy a.c a.self.now.q.now c.requires.fact_2.points in (
      four_tidy a.c c.window_of-six.result _ 0 (six-tidy step) (t-tidy step) c.values-four.ensures,
      subst (λ (x : Vector Dv). Tidy a.c x.x) (sym point) (tidy _),
      subst (λ (x : Vector Dv). Tidy a.c x.y) (sym point) (tidy _),
    )

pub returns-then-of_point : goal.returns-then-of_point
returns-then-of_point c =
    let a = c.args in
    let s = a.self.now in
    let n = length s.p.now in
    let step = (goal.at.returns-then-of_point c).After-window_of-six in
    stored_as a.c (a.r * (n + 2 + 2)) (n + 2 + 2) _ _
    (λ k h. point_numbers c.window_of-six.result c.span-i.result _ s.q.now n a.r (sym c.of_point.ensures ∙ c.if-of_point.true)
    c.values-four.ensures c.point-b.ensures k
    ∙ numbers step k h)
    c.fill_row.ensures

pub fill_row-requires-2-clause-fact_2 : goal.fill_row-requires-2-clause-fact_2
fill_row-requires-2-clause-fact_2 c =
    let a = c.args in
    let step = (goal.at.fill_row-requires-2-clause-fact_2 c).After-window_of-six in
    let zero = subst (Tidy a.c) (sym c.cst-zero.ensures) (cst_tidy _ zero64) in
    (four_tidy a.c c.window_of-six.result _ 2 (six-tidy step) (t-tidy step) c.second-four.ensures, zero, zero)

pub returns : goal.returns
returns c =
    let a = c.args in
    let s = a.self.now in
    let n = length s.p.now in
    let step = (goal.at.returns c).After-window_of-six in
    stored_as a.c (a.r * (n + 2 + 2)) (n + 2 + 2) _ _
    (λ k h. end_numbers c.window_of-six.result c.span-i.result _ s.q.now n a.r (sym c.of_point.ensures ∙ c.if-of_point.false)
    c.second-four.ensures (λ j. record { x = c.cst-zero.ensures j; y = c.cst-zero.ensures j }) k
    ∙ numbers step k h)
    c.fill_row-2.ensures

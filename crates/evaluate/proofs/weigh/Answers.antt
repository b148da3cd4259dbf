-- `evaluate::weigh` meets its contract: a fold over the control points and the basis values side by side.
use Rattle.std.proofs.Common.{rules, of_calls, ◌≡◌, ◌∙◌, refl, sym, ap, [], ◌∷◌}
use Rattle.std.specs.List.{fold, zip}
use Rattle.std.proofs.lemmas.Fn.{fronts, fold_over}
use Rattle.std.proofs.lemmas.List.Sums.{fold-append}
use Rattle.std.proofs.lemmas.Iterator.{zips, YieldsList-from_slice, YieldsList-from_zip}
use Rattle.evaluate.proofs.Pieces.{add_product, weighted_zip}
use Rattle.evaluate.proofs.weigh.Goals as goal

pub returns : goal.returns
returns g c =
    let o = g.S.Scalar.ops in
    let a = c.args.a.now in
    let row = c.args.row.now in
    let first = ap (λ i. i.rest.now) c.zip.ensures.first ∙ c.iter.ensures.rest in
    let pairs = YieldsList-from_zip {s = c.zip.result} (YieldsList-from_slice a first) (YieldsList-from_slice row c.zip.ensures.second.0) in
    fold_over (zips fronts fronts) (λ p. (p.0.now, p.1.now)) _ (λ ys s. s ≡ fold (add_product o) c.cst.result ys) (tt {0})
    (λ ys s x b f q k.
    let m : b ≡ o.plus s (o.times x.0.now x.1.now) = search (rules, of_calls) in
    (m ∙ ap (λ z. o.plus z (o.times x.0.now x.1.now)) q ∙ sym (fold-append (add_product o) c.cst.result ys ((x.0.now, x.1.now) ∷ [])), refl))
    c.zip.result (zip a row) c.cst.result _ pairs.runs refl c.fold.ensures.ran
    ∙ weighted_zip o a row c.cst.ensures c.told-a c.told-row

use Rattle.std.proofs.Common.{◌≡◌, subst, rules}
use Rattle.std.proofs.lemmas.Fn.{fold_over, slice_gives, fronts}
use Rattle.measure.specs.Meaning.{best}
use Rattle.measure.proofs.Totals.{bettering, total_push}
use Rattle.measure.proofs.rows.best_of.Goals as goal

pub returns : goal.returns
returns g c =
    let m = g.M.Measure.meaning in
    subst (λ ws. c.fold.result ≡ best m ws) c.iter.ensures.rest
    (fold_over fronts (λ w. w.now) _ (λ ws sum. sum ≡ best m ws) _
    (λ ws a w b f' j k. let more = total_push (bettering g.met.M.Measure.lawful) ws w.now in search rules)
    _ _ _ _ (slice_gives c.iter.result) (search rules) c.fold.ensures.ran)

use Rattle.std.proofs.Common.{◌≡◌, [], ◌∷◌, ◌++◌, length, replicate, refl, sym, ap, ◌∙◌, rules}
use Rattle.std.proofs.lemmas.Fn.{chained_keeps}
use Rattle.std.proofs.lemmas.List.{length_push, replicate_more}
use Rattle.tables.proofs.filling.fill.Goals as goal

pub returns : goal.returns
returns g c =
    let blank = c.args.blank in
    let blanks = chained_keeps _ (λ xs q. (xs ≡ replicate (length xs) blank) × (q.0.now ≡ blank))
    (λ xs q x v j r.
    let given : (x ≡ q.0.now) × (v ≡ q) = search rules in (
      ap (λ zs. zs ++ x ∷ []) j.0 ∙ ap (λ y. replicate (length xs) blank ++ y ∷ []) (given.0 ∙ j.1)
          ∙ replicate_more (length xs) blank ∙ ap (λ n. replicate n blank) (sym (length_push xs x)),
      ap (λ f. f.0.now) given.1 ∙ j.1,
    ))
    _ _ _ (refl, refl) c.fill_with.ensures.ran.1 in
    blanks.0 ∙ ap (λ n. replicate n blank) c.fill_with.ensures.len

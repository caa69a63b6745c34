-- Looking up a section by its ends. Assumes nothing.
use Rattle.std.proofs.Common.{◌≡◌, ℕ, ◌+◌, ◌<◌, cond, List, length, get_or, drop, Some, sym, ap, ◌∙◌}
use Rattle.std.proofs.lemmas.List.{at_drop_more}
use Rattle.model.specs.Sections.{same_ends, weight_of}
use Rattle.model.specs.declared.records.Section.{Section}

-- one section more
pub weight_of_more : {W : Type 0} (low high : ℕ) (ss : List (Section W)) (i : ℕ) (s : Section W) → i < length ss → s ≡ get_or ss i s → weight_of low high (drop i ss) ≡ cond (same_ends s.low s.high low high) (Some s.weight) (weight_of low high (drop (i + 1) ss))
weight_of_more low high ss i s within read =
    at_drop_more (weight_of low high) ss i s within
    ∙ ap (λ x. cond (same_ends x.low x.high low high) (Some x.weight) (weight_of low high (drop (i + 1) ss))) (sym read)

-- The round, half by half. Assumes nothing.
use Rattle.std.proofs.Common.{List, ℕ, take, drop, sym, ap, ap₂, ◌∙◌, subst, arith}
use Rattle.mixer.specs.declared.Words.{Words}
use Rattle.mixer.specs.Mixers.{blamka_sum}
use Rattle.mixer.specs.G.{half_g}
use Rattle.profile.specs.declared.Quad.{Quad}
use Rattle.permutation.specs.Round.{at_all, AllInside}
use Rattle.blamka.proofs.SideBySide.{columns_inside, diagonals_inside, round_by_halves}
use Rattle.blamka.proofs.blamka_round.Goals as goal

abbrev f : Words → Words
f = half_g blamka_sum 32 24

abbrev g : Words → Words
g = half_g blamka_sum 16 63

pub apply_halves-requires-clause-inside : goal.apply_halves-requires-clause-inside
apply_halves-requires-clause-inside c = subst (λ (qs : List Quad). AllInside (take 4 qs)) (sym c.quads-quads.ensures) columns_inside

pub apply_halves-requires-2-clause-inside : goal.apply_halves-requires-2-clause-inside
apply_halves-requires-2-clause-inside c = subst (λ (qs : List Quad). AllInside (take 4 qs)) (sym c.quads-quads.ensures) columns_inside

pub apply_halves-requires-3-clause-inside : goal.apply_halves-requires-3-clause-inside
apply_halves-requires-3-clause-inside c = subst (λ (qs : List Quad). AllInside (take 4 (drop 4 qs))) (sym c.quads-quads.ensures) diagonals_inside

pub apply_halves-requires-4-clause-inside : goal.apply_halves-requires-4-clause-inside
apply_halves-requires-4-clause-inside c = subst (λ (qs : List Quad). AllInside (take 4 (drop 4 qs))) (sym c.quads-quads.ensures) diagonals_inside

pub returns : goal.returns
returns c =
    let e = c.quads-quads.ensures in
    c.apply_halves-4.ensures ∙ ap₂ (λ (t : List ℕ) (qs : List Quad). at_all g t (take 4 (drop 4 qs)))
    (c.apply_halves-3.ensures ∙ ap₂ (λ (t : List ℕ) (qs : List Quad). at_all f t (take 4 (drop 4 qs)))
    (c.apply_halves-2.ensures ∙ ap₂ (λ (t : List ℕ) (qs : List Quad). at_all g t (take 4 qs))
    (c.apply_halves.ensures ∙ ap (λ (qs : List Quad). at_all f c.args.s.now (take 4 qs)) e) e) e) e
    ∙ round_by_halves blamka_sum c.args.s.now (omega arith)

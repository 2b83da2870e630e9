-- The checks of the plain derivation, then that of the record. Assumes nothing.
use Rattle.std.proofs.Common.{◌≡◌, ℕ, ◌+◌, ◌*◌, ◌≤◌, [], ◌∷◌, sym, ap, ◌∙◌, arith}
use Rattle.settings.specs.declared.Parameters.{Parameters}
use Rattle.settings.specs.declared.Lengths.{Lengths}
use Rattle.refusals.specs.Checks.{at_least, record_check, first, cost_checks, plain_checks, recorded_checks}
use Rattle.refusals.proofs.Accepted.{accepted, record_most, visits_most}
use Rattle.refusals.proofs.Chained.{handed_on, refused, passed}
use Rattle.room_refusals.proofs.check_recorded_room.Goals as goal

-- what the checks of the plain derivation leave
visited : (l : Lengths) (p : Parameters) (m : ℕ) → 0 ≡ first (plain_checks l p m)
    → (p.columns ≤ 256) × (p.rows * p.time ≤ 4177920) × (p.rows * p.time * (1 + p.columns) ≤ 1073725440)
unfolding plain_checks cost_checks
visited l p m e =
    let bounds = accepted (plain_checks l p m) (omega arith) (sym e) in
    (omega arith, visits_most p.rows p.time (omega arith) (omega arith), record_most p.rows p.time p.columns (omega arith) (omega arith) (omega arith))

pub returns-in_err-check_room : goal.returns-in_err-check_room
unfolding recorded_checks
returns-in_err-check_room c = handed_on _ _ c.from_residual.ensures (refused (plain_checks _ _ _) _ c.in_err-check_room.ensures)

pub overflow_mul-p : goal.overflow_mul-p
overflow_mul-p c = omega (arith, visited _ _ _ c.in_ok-check_room.ensures)

pub record_words-words-requires : goal.record_words-words-requires
record_words-words-requires c = let v = visited _ _ _ c.in_ok-check_room.ensures in (v.0, omega (arith, v.2))

pub returns : goal.returns
unfolding recorded_checks plain_checks cost_checks
returns c =
    let a = c.args in
    passed (plain_checks a.l a.p a.matrix) (record_check a.p a.«record» ∷ []) (omega arith) c.in_ok-check_room.ensures
    (c.at_least.ensures ∙ ap (λ (n : ℕ). first (at_least 8 n a.«record» ∷ [])) c.record_words-words.ensures)

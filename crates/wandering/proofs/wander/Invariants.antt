-- Where what stands before the loop is what one visit leaves, it is what as many visits leave as were made, and the record goes on at the next
-- visit's place; the words of one visit are far from a word's end.
use Rattle.std.proofs.Common.{◌≡◌, ℕ, List, ◌<◌, ◌*◌, ◌^◌, length}
use Rattle.settings.specs.Settings.{settings}
use Rattle.settings.specs.Sizes.{visit_words}
use Rattle.columns.specs.Columns.{work}
use Rattle.visits.specs.Visits.{Walk, walk}
use Rattle.visits.specs.Wandered.{Wandered}
use Rattle.wandering.proofs.wander.Given as goal

abbrev pub invariant-loop : goal.invariant-loop
invariant-loop l =
    (l.last.row0.0 < l.p.rows) × (l.last.row1.0 < l.p.rows) × (l.last.calls ≡ l.counter * l.p.columns) × (l.at ≡ l.counter * visit_words (settings l.p))
    × (length l.m ≡ length l.initial.m) × (visit_words (settings l.p) < 2 ^ 63)
    × ((w : Walk) (xs : List ℕ) → Wandered (settings l.p) 1 w (walk (work l.initial.s l.initial.m) l.initial.last.row0.0 l.initial.last.row1.0) xs l.initial.«record» l.initial.last.calls
    → Wandered (settings l.p) l.counter w (walk (work l.s l.m) l.last.row0.0 l.last.row1.0) xs l.«record» l.last.calls)

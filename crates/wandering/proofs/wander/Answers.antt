-- `wander` meets its contract. The loop's invariant: where what stands before it is what one visit leaves, it is what k visits leave, and the record
-- goes on at the next visit's place; the words of one visit are far from a word's end. Assumes nothing.
use mathlib.Core.Path.{◌≡◌, refl, sym, ap, ◌∙◌}
use Prim.Native.Nat.{ℕ, ◌<◌, ◌+◌, ◌*◌, ◌^◌}
use native.Mathlib.Omega.{arith}
use native.Mathlib.Nat.{zero-mul, zero-add}
use Rattle.settings.specs.Settings.{settings}
use Rattle.settings.specs.Sizes.{visit_words}
use Rattle.settings.specs.declared.Parameters.{Parameters}
use Rattle.columns.specs.Columns.{work}
use Rattle.columns.proofs.RowLaws.{row_more, row_before}
use Rattle.visits.specs.Visits.{walk}
use Rattle.visits.proofs.Recording.{wandered_none, wandered_more}
use Rattle.wandering.proofs.wander.Goals as goal

-- where there is a visit, its words are within the bound of them all
one-visit : (n : ℕ) (p : Parameters) → 0 < n → n * visit_words (settings p) < 2 ^ 63 → visit_words (settings p) < 2 ^ 63
one-visit n p h f = omega (arith, row_before 0 n (visit_words (settings p)) h)

-- no visit: each part by itself, so that a wrong row is refused at `walked`
pub returns-then-n-eq0 : goal.returns-then-n-eq0
returns-then-n-eq0 c =
    let start = c in
    let a = start.args in
    let none : a.n ≡ 0 = omega (arith, c.if-n-eq0.true) in
    let same = wandered_none (settings a.p) (walk (work a.s.now a.m.now) a.prev0.0 a.prev1.0) start.requires.0.prev0_lt start.requires.0.prev1_lt a.«record».now in
    record {
      counted = rw none same.counted;
      prev0_lt = omega (arith, start.requires.0.prev0_lt, start.requires.0.prev1_lt);
      prev1_lt = omega (arith, start.requires.0.prev0_lt, start.requires.0.prev1_lt);
      walked = rw none same.walked;
      noted = rw none same.noted;
    }

pub visit-next-requires : goal.visit-next-requires
visit-next-requires c =
    let v = c.loop in
    let start = c in (
      record {
        packable = start.requires.0.packable;
        prev0_lt = v.invariant.0;
        prev1_lt = v.invariant.1;
        room = omega (arith, v.invariant.4, c.visit-last.auto.m, start.requires.0.room);
      },
      omega (arith, v.invariant.3, start.requires.1, row_before v.counter start.args.n (visit_words (settings start.args.p)) c.loop-test.true),
    )

pub loop-preserved : goal.loop-preserved
loop-preserved c =
    let v = c.loop in
    let call = c.visit-next in
    let a = c.args in (
      call.ensures.prev0_lt,
      call.ensures.prev1_lt,
      omega (arith, v.invariant.2, call.ensures.counted, row_more v.counter a.p.columns),
      ap (λ (n : ℕ). n + (1 + a.p.columns)) v.invariant.3 ∙ sym (row_more v.counter (visit_words (settings a.p))),
      call.auto.m ∙ v.invariant.4,
      v.invariant.5,
      λ w xs d. wandered_more _ _ (v.invariant.6 w xs d) v.invariant.3 call.ensures,
    )

pub returns : goal.returns
returns c =
    let start = c in
    let v = c.loop in
    let first = c.visit-last.ensures in
    let at_end : v.counter ≡ start.args.n = omega arith in
    let none = wandered_none _ _ start.requires.0.prev0_lt start.requires.0.prev1_lt _ in
    rw (← at_end) (v.invariant.6 _ _ (simp zero-add at (wandered_more _ _ none (sym (zero-mul _)) first)))

pub visit-last-requires : goal.visit-last-requires
visit-last-requires c =
    let start = c in
    (start.requires.0, omega (arith, one-visit start.args.n start.args.p (omega (arith, c.if-n-eq0.false)) start.requires.1))

pub loop-init : goal.loop-init
loop-init c =
    let start = c in
    let first = c.visit-last.ensures in
    let fits = one-visit start.args.n start.args.p (omega (arith, c.if-n-eq0.false)) start.requires.1 in
    (first.prev0_lt, first.prev1_lt, omega (arith, first.counted), omega arith, refl, fits, λ w xs d. d)

use Rattle.std.proofs.Common.{List, refl, sym, ap, ◌∙◌, arith, ℕ, take}
use denote.Ref.{Bor}
use Rattle.accounts.proofs.Walking.{run, running_none}
use Rattle.account_numbers.specs.Numbers.{numbers_from, meet}
use Rattle.account_numbers.proofs.Comparing.{of_book, distinct_none, distinct_repeated, distinct_met, distinct_more, distinct_end}
use Rattle.account_numbers.proofs.are_distinct.Goals as goal
use Rattle.account_numbers.proofs.are_distinct.Goals.{then-not-all_differ-via-then-not-all_differ, then-not-all_differ-via-else-not-all_differ+then-meets}

pub loop-reader-init : goal.loop-reader-init
loop-reader-init c =
    record {
      long = refl;
      same_book = ap (λ (b : Bor (List ℕ)). b.now) c.new-reader.ensures.0;
      distinct = rw c.new-reader.ensures.1 (distinct_none (running_none (run _ c.requires)));
    }

pub returns-then-not-all_differ : goal.returns-then-not-all_differ
returns-then-not-all_differ c =
    let inv = c.loop-reader.invariant in
    let held = take c.collect-count.result c.collect-count.new.block in
    let k = of_book inv.same_book c.collect-count.ensures.collected in
    let book = ap (λ (b : Bor (List ℕ)). b.now) c.collect-count.ensures.same_book ∙ inv.same_book in
    elim c.then-not-all_differ.branch [
      | then-not-all_differ-via-then-not-all_differ w ↦ distinct_repeated inv.distinct k (sym c.all_differ.ensures ∙ w.if-not-all_differ.true)
      | then-not-all_differ-via-else-not-all_differ+then-meets w ↦
          distinct_met inv.distinct k (sym c.all_differ.ensures ∙ w.if-not-all_differ.false)
          (sym (w.meets.ensures ∙ ap (λ (l : List ℕ). meet held (numbers_from l c.collect-count.new.reader.at)) book) ∙ w.if-meets.true)
    ]

pub loop-reader-preserved : goal.loop-reader-preserved
loop-reader-preserved c =
    let inv = c.loop-reader.invariant in
    let held = take c.collect-count.result c.collect-count.new.block in
    let k = of_book inv.same_book c.collect-count.ensures.collected in
    let book = ap (λ (b : Bor (List ℕ)). b.now) c.collect-count.ensures.same_book ∙ inv.same_book in
    record {
      long = c.collect-count.ensures.block_len_unchanged ∙ inv.long;
      same_book = book;
      distinct =
          distinct_more inv.distinct k (sym c.all_differ.ensures ∙ c.if-not-all_differ.false)
          (sym (c.meets.ensures ∙ ap (λ (l : List ℕ). meet held (numbers_from l c.collect-count.new.reader.at)) book) ∙ c.if-meets.false);
    }

pub returns : goal.returns
returns c = distinct_end c.loop-reader.invariant.distinct (omega arith)

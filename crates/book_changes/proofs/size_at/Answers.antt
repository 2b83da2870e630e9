use Rattle.std.proofs.Common.{◌≡◌, ℕ, drop, ap, sym, subst, ◌∙◌, Option, Some, None, unwrap_or, rules}
use Rattle.std.specs.Option.{MatchOption}
use Rattle.accounts.specs.declared.Entry.{Entry}
use Rattle.accounts.specs.Accounts.{whole_entry, nothing}
use Rattle.accounts.proofs.Decoding.{entry_or}
use Rattle.book_changes.proofs.size_at.Goals as goal

size_or : (r : ℕ) (o : Option Entry) → MatchOption o (r ≡ 0) (λ e. r ≡ e.size) → r ≡ (unwrap_or o nothing).size
unfolding nothing
size_or r None h = h
size_or r (Some e) h = h

pub returns : goal.returns
returns c =
    let u = drop c.args.place c.args.part.now in
    size_or c.map_or.result (whole_entry u)
    (subst (λ (o : Option Entry). MatchOption o (c.map_or.result ≡ 0) (λ e. c.map_or.result ≡ e.size)) c.account_at.ensures (search rules))
    ∙ sym (ap (λ (e : Entry). e.size) (entry_or u))

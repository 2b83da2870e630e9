-- What the tests of an account in front say. Assumes nothing.
use mathlib.Core.Path.{◌≡◌, refl, sym, ap, ◌∙◌}
use Prim.Native.Nat.{ℕ, ◌-◌, ◌<◌}
use native.Mathlib.Omega.{arith}
use mathlib.Core.List.{List}
use lib.Dec.{eqb, leb}
use lib.ListN.{length}
use lib.Seq.{take_all}
use borrow.Author.Tests.{leb-true, leb-false}
use Rattle.std.specs.Prelude.{Bool, true, false, Option, Some, None, Result, Ok, Err}
use Rattle.std.specs.Bool.{then_some}
use Rattle.std.specs.Result.{result_ok}
use Rattle.refusals.specs.declared.Refusal.{Refusal}
use Rattle.refusals.specs.Refusals.{answer_number}
use Rattle.refusals.proofs.Chained.{number_above}
use Rattle.refusals.specs.Checks.{first}
use Rattle.text.specs.Text.{stands_at}
use Rattle.accounts.specs.declared.Entry.{Entry}
use Rattle.accounts.specs.Accounts.{mark, head_of, limits, whole_entry}
use Rattle.accounts.proofs.Decoding.{is_whole_lem, cut_off, whole_some, whole_none}

module _ {A : Type 0} where
  pub no_ok : (x : Result A Refusal) → None ≡ result_ok x → 0 < answer_number x
  no_ok (Ok a) h = absurd (cc)
  no_ok (Err r) h = number_above r

  pub an_ok : (x : Result A Refusal) {a : A} → Some a ≡ result_ok x → answer_number x ≡ 0
  an_ok (Ok a) h = refl
  an_ok (Err r) h = absurd (cc)

pub last_test : (u : List ℕ) {e : Entry} {r : Option Entry} → e ≡ head_of u → stands_at u 0 mark ≡ true → first (limits (head_of u)) ≡ 0
    → r ≡ then_some (leb e.size (length u)) e → r ≡ whole_entry u
last_test u {e} {r} is marked within told = go (leb (head_of u).size (length u)) refl
  where
    same : r ≡ then_some (leb (head_of u).size (length u)) (head_of u)
    same = told ∙ ap (λ (x : Entry). then_some (leb x.size (length u)) x) is

    go : (b : Bool) → leb (head_of u).size (length u) ≡ b → r ≡ whole_entry u
    go true h = same ∙ ap (λ (t : Bool). then_some t (head_of u)) h ∙ sym (whole_some u (is_whole_lem u marked within (leb-true _ _ h)))
    go false h = same ∙ ap (λ (t : Bool). then_some t (head_of u)) h ∙ sym (whole_none u (cut_off u (leb-false _ _ h)))

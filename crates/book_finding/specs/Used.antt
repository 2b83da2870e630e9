-- The used part of a slice, as the code asks for it.
use Rattle.std.specs.Prelude.{◌≡◌, ℕ, true, false, List, take}
use denote.Ref.{Bor}
use Rattle.refusals.specs.declared.Refusal.{Refusal}
use Rattle.refusals.specs.declared.Refusal.TheVariants.{BookForm}
use Rattle.refusals.specs.Checks.{refuses}
use Rattle.accounts.specs.Promises.{good_book}

-- the part is a book
abbrev pub IsUsed : ℕ → List ℕ → Bor (List ℕ) → Type 0
IsUsed used book part = (part.now ≡ take used book) × (refuses (good_book used book) ≡ false)

-- it is none
abbrev pub IsNoBook : ℕ → List ℕ → Refusal → Type 0
IsNoBook used book refusal = (refusal ≡ BookForm) × (refuses (good_book used book) ≡ true)

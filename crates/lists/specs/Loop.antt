-- A step for each number below n, in order.
use Rattle.std.specs.Prelude.{ℕ, zero, suc}

unfoldable pub loop : {A : Type 0} → (ℕ → A → A) → ℕ → A → A
loop f zero a = a
loop f (suc n) a = f n (loop f n a)

-- Each refusal by the number of its check, and an answer by its refusal's, 0 where there is a result.
use Rattle.std.specs.Prelude.{ℕ, Result, Ok, Err}
use Rattle.refusals.specs.declared.Refusal.{Refusal}
use Rattle.refusals.specs.declared.Refusal.TheVariants.{KeyLength, PasswordLength, SaltTooShort, TimeCost, RowCount, ColumnCount, MatrixLength, RecordLength, SetupRow, SaltTooLong, LineForm, OutputLength, RoundCount, Rotation, TryCount, NothingFits, BookForm, NoAccount, BookLength, LaneCount}

abbrev pub number_of : Refusal → ℕ
number_of KeyLength = 1
number_of PasswordLength = 2
number_of SaltTooShort = 3
number_of TimeCost = 4
number_of RowCount = 5
number_of ColumnCount = 6
number_of MatrixLength = 7
number_of RecordLength = 8
number_of SetupRow = 9
number_of SaltTooLong = 10
number_of LineForm = 11
number_of OutputLength = 12
number_of RoundCount = 13
number_of Rotation = 14
number_of TryCount = 15
number_of NothingFits = 16
number_of BookForm = 17
number_of NoAccount = 18
number_of BookLength = 19
number_of LaneCount = 20

abbrev pub answer_number : {A : Type 0} → Result A Refusal → ℕ
answer_number (Ok a) = 0
answer_number (Err r) = number_of r

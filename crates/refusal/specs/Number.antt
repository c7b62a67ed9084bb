-- The papers' number of each refusal [01:When a number is given instead; 02:T-01].
-- Assumes nothing.
use Rattle.std.specs.Prelude.{ℕ}
use Rattle.refusal.specs.declared.Refusal.{Refusal}

unfoldable pub number_of : Refusal → ℕ
number_of Refusal.EndsEarly = 1
number_of Refusal.Count = 2
number_of Refusal.SpareBits = 3
number_of Refusal.Size = 4
number_of Refusal.Width = 5
number_of Refusal.Code = 6
number_of Refusal.User = 7
number_of Refusal.Node = 8
number_of Refusal.Start = 9
number_of Refusal.Question = 10
number_of Refusal.Room = 11
number_of Refusal.Row = 12
number_of Refusal.Absent = 13
number_of Refusal.Value = 14
number_of Refusal.Cell = 15
number_of Refusal.Forbidden = 16
number_of Refusal.Grant = 17
number_of Refusal.ListSize = 18
number_of Refusal.Lists = 19

use Rattle.std.proofs.Common.{◌≡◌, ◌+◌, refl}
use Rattle.refusal.specs.declared.Refusal.{Refusal}
use Rattle.refusal.specs.Number.{number_of}
use Rattle.refusal.proofs.U8FromRefusal.from.Goals as goal

-- the variants stand in the order of their numbers, from 1 on
tag : (r : Refusal) → denote.Enum.Declared.tag_of Rattle.refusal.specs.contracts.Refusal.the_type r + 1 ≡ number_of r
unfolding number_of
tag Refusal.EndsEarly = refl
tag Refusal.Count = refl
tag Refusal.SpareBits = refl
tag Refusal.Size = refl
tag Refusal.Width = refl
tag Refusal.Code = refl
tag Refusal.User = refl
tag Refusal.Node = refl
tag Refusal.Start = refl
tag Refusal.Question = refl
tag Refusal.Room = refl
tag Refusal.Row = refl
tag Refusal.Absent = refl
tag Refusal.Value = refl
tag Refusal.Cell = refl
tag Refusal.Forbidden = refl
tag Refusal.Grant = refl
tag Refusal.ListSize = refl
tag Refusal.Lists = refl

-- src/lib.rt:54:5
pub returns : goal.returns
returns c = tag c.args.refusal

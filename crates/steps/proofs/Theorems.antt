-- The claims of specs/Claims, each by its proof.
use Rattle.steps.specs.Claims.{StepIsTheTable, FilesAreBytes, LentStatesThatReadAlike, NumbersCountUp}
use Rattle.steps.proofs.Alike.{same_step}
use Rattle.steps.proofs.Files.{file-bytes}
use Rattle.steps.proofs.Counting.{count-up}
use Rattle.steps.proofs.Table.{table_step}

pub step-is-the-table : StepIsTheTable
step-is-the-table = table_step

pub files-are-bytes : FilesAreBytes
files-are-bytes = file-bytes

pub lent-states-that-read-alike : LentStatesThatReadAlike
lent-states-that-read-alike = same_step

pub numbers-count-up : NumbersCountUp
numbers-count-up = count-up

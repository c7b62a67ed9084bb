-- `alike::fields::fields_of` meets its contract: the places of holder h are filled in, where there is such a holder.
use mathlib.Core.Path.{refl}
use Rattle.policy.specs.Rules.{attrs_of}
use Rattle.alike.proofs.FieldLaws.{shifts-laid, shifts-not, bits-laid, bits-not}
use Rattle.alike.proofs.fields.fields_of.Goals as goal

pub returns-then-h-lt8 : goal.returns-then-h-lt8
returns-then-h-lt8 c =
    let a = c.args in
    let e = c.lay.ensures in record { shifts_value = shifts-laid (attrs_of a.class) a.h _ refl _ e.shifts; bits_value = bits-laid (attrs_of a.class) a.h _ refl _ e.bits }

pub returns-else-h-lt8 : goal.returns-else-h-lt8
returns-else-h-lt8 c =
    let a = c.args in record { shifts_value = shifts-not (attrs_of a.class) a.h _ refl c.if-h-lt8.false; bits_value = bits-not (attrs_of a.class) a.h _ refl c.if-h-lt8.false }

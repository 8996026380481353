use Rattle.std.proofs.Common.{◌≡◌, refl, sym, zero-add, length}
use Rattle.directory.specs.Directory.{no_row, lookup_row}
use Rattle.directory.specs.Gathered.{list_of}
use Rattle.directory.proofs.Looking.{too_many, unsound_row}
use Rattle.directory.proofs.lookup_among.Goals as goal

pub returns-in-None : goal.returns-in-None
returns-in-None c =
    let e : no_row ≡ lookup_row (length c.args.factory.now) (length c.args.writable.now) (list_of (record { rows = c.args.rows; count = c.args.count })) c.args.id =
    unsound_row _ _ _ _ (too_many _ _ _ c.in-None.ensures) refl in
    record { part = rw (← e) (record { octets = refl; block = refl; place = sym (zero-add _) }) }

-- `sound::stream_fits` meets its contract, case by case.
use Rattle.sessions.proofs.Fits.{unnamed, message, service-to, service-type, no_kind}
use Rattle.sessions.proofs.sound.stream_fits.Goals as goal

pub returns-then-k-eq0 : goal.returns-then-k-eq0
returns-then-k-eq0 c = unnamed c.args.k c.if-k-eq0.true

pub returns-then-k-lt1073741824 : goal.returns-then-k-lt1073741824
returns-then-k-lt1073741824 c = message c.args.k c.if-k-eq0.false c.if-k-lt1073741824.true

pub returns-then-k-lt256 : goal.returns-then-k-lt256
returns-then-k-lt256 c = service-to c.args.k c.if-k-eq0.false c.if-k-lt1073741824.false c.if-k-lt3221225472.true c.if-k-lt256.true

pub returns-else-k-lt256 : goal.returns-else-k-lt256
returns-else-k-lt256 c = service-type c.args.k c.if-k-eq0.false c.if-k-lt1073741824.false c.if-k-lt3221225472.true c.if-k-lt256.false

pub returns-else-k-lt3221225472 : goal.returns-else-k-lt3221225472
returns-else-k-lt3221225472 c = no_kind c.args.k c.if-k-eq0.false c.if-k-lt3221225472.false

-- `sound::key_fits` meets its contract, case by case.
use Rattle.id_map.proofs.Soundness.{message-key, request-key, even-key, large-key}
use Rattle.id_map.proofs.sound.key_fits.Goals as goal

pub returns-then-k-lt16777216 : goal.returns-then-k-lt16777216
returns-then-k-lt16777216 c = message-key c.args.k c.if-k-lt16777216.true

pub returns-then-low-eq1 : goal.returns-then-low-eq1
returns-then-low-eq1 c = request-key c.args.k c.if-k-lt16777216.false c.if-k-lt16842752.true c.if-low-eq1.true

pub returns-else-low-eq1 : goal.returns-else-low-eq1
returns-else-low-eq1 c = even-key c.args.k c.if-k-lt16777216.false c.if-low-eq1.false

pub returns-else-k-lt16842752 : goal.returns-else-k-lt16842752
returns-else-k-lt16842752 c = large-key c.args.k c.if-k-lt16777216.false c.if-k-lt16842752.false

-- The samples, by computing.
use mathlib.Core.Path.{refl}
use Rattle.bits.specs.Little.{le_bytes}
use Rattle.bits.specs.Tabulate.{tabulate}
use Rattle.checksum.specs.Crc.{shift, shifts, crc_byte, crc_over}
use Rattle.checksum.specs.Crc16.{checksum}
use Rattle.rules.specs.Frame.{same_stream, stream_of}
use Rattle.rules.specs.SentLaws.{opening}
use Rattle.rules.specs.Setup.{subscribed}
use Rattle.judge_rules.specs.Good.{signature_of, frame_check, add}
use Rattle.judge_rules.specs.Verdict.{seen, begins, extends, follow, streams, state_of, put, entered, named, judged, advance, run, verdict_by, verdict}
use Rattle.judge_rules.proofs.samples.Goals as goal

pub returns : goal.returns
unfolding le_bytes tabulate shift shifts crc_byte crc_over checksum same_stream stream_of opening subscribed signature_of frame_check add seen begins extends follow streams state_of put entered named judged advance run verdict_by verdict
returns c = refl

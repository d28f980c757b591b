-- An allocatee and an allocator end with the same ID.
use Rattle.allocatee.proofs.Meeting.{meeting}
use Rattle.allocatee.proofs.laws.meeting.Goals as goal

pub returns : goal.returns
returns c = meeting

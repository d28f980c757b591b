-- RULES 12.4: what the call on a block leaves in the caller's buffers.
use Rattle.std.specs.Prelude.{List, ℕ, take}
use Rattle.log_feed.specs.Feed.{Feed}
use Rattle.log_feed.specs.declared.Fed as fed

abbrev pub seen : fed.Fed → List ℕ → List ℕ → List ℕ → Feed
seen r m block out = record { text = take r.len out; state = m; counts = r.counts; kept = take r.kept block }

use Rattle.aud_text.proofs.FirstFeed.{first-feed}
use Rattle.aud_text.proofs.line.feed_at.Goals as goal

pub returns : goal.returns
returns c = first-feed c.args.text.now c.memchr.result c.memchr.ensures

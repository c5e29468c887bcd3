use Rattle.wit_model.specs.Rules.State.{Story}
use Rattle.std.proofs.Common.{◌≡◌}
use Rattle.wit_shared.proofs.Named.{news_name_own}
use Rattle.wit_shared.proofs.shared.Shared.news.Goals as goal

pub returns-clause-own : goal.returns-clause-own
returns-clause-own g c =
    news_name_own g.J.Room.start (λ (s new : Story). new ≡ s) c.args.seat.now c.news-news.new.seat
    c.news-news.result
    c.news-news.ensures.told c.news-news.ensures.all

use Rattle.wit_forecast.proofs.Told.{told-broken}
use Rattle.wit_forecast.proofs.forecasting.ForecastingMachine.broken.Goals as goal

pub returns : goal.returns
returns c =
    told-broken c.args.self.now c.args.number c.args.cause c.args.beginning.now c.refused.result
    c.refused.ensures

pub mod Errands
pub mod Forecasting
pub mod Forecasts
pub mod Owners

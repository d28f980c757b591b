mod BatteryInfoFacts
mod Trips

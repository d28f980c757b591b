mod KeyValueFacts
mod LogMessageFacts
mod Trips

mod CommandsConfig
pub mod CommandsFit
pub mod Gets
mod ValuesEnd
mod WordsNumbers
mod WordsTexts

pub mod AsGoodMeaning

pub mod MixedTexts
pub mod TextsOfMixedSets

mod NewKeyLaws

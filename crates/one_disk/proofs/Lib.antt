mod ByteLaws
